-- Loops that skip blank IDs.
use Rattle.std.proofs.Common.{◌≡◌, ℕ, zero, suc, ◌<◌, ◌≤◌, ◌+◌, ◌-◌, subst, arith}
use Rattle.dimacs_network.specs.Skips.{Skips}

steps : (P : ℕ → Type 0) (from gap : ℕ) → ((id : ℕ) → from ≤ id → id < from + gap → P id → P (id + 1)) → P from → P (from + gap)
steps P from zero step here = let same : from ≡ from + 0 = omega arith in subst P same here
steps P from (suc gap) step here =
    let next : from + gap + 1 ≡ from + suc gap = omega arith in
    let before : P (from + gap) = steps P from gap (λ id least below. step id least (omega (arith, below))) here in
    subst P next (step (from + gap) (omega arith) (omega arith) before)

-- what holds for the IDs before `from`, and for one more if it is blank, holds for those before `to`
pub skipped : (IsBlank P : ℕ → Type 0) (from end to : ℕ) → Skips IsBlank from end to → ((id : ℕ) → from ≤ id → id < to → IsBlank id → P id → P (id + 1)) → P from → P to
skipped IsBlank P from end to is step here =
    let whole : from + (to - from) ≡ to = omega (arith, is.onward) in
    subst P whole (steps P from (to - from) (λ id least below. let before : id < to = omega (arith, below, is.onward) in step id least before (is.blank id least before)) here)

-- to skip more
pub Skips-weaker : (P Q : ℕ → Type 0) (from end to : ℕ) → ((id : ℕ) → P id → Q id) → Skips P from end to → Skips Q from end to
Skips-weaker P Q from end to implies is = record { onward = is.onward; within = is.within; blank = λ id least below. implies id (is.blank id least below) }
