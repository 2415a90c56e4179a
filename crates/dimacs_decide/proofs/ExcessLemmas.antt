-- Summing excesses, node by node.
use Rattle.std.proofs.Common.{◌≡◌, ℕ, suc, zero, ◌+◌, ◌-◌, ◌*◌, ◌^◌, ◌≤◌, List, ℤ, pos, negsuc, ◌+ℤ◌, ◌≤ℤ◌, refl, ap, subst, arith}
use Rattle.std.proofs.lemmas.Int.{ints}
use Rattle.dimacs_instance.specs.MinFlows.{MinValue, positive_part}
use Rattle.dimacs_network.specs.Skips.{Skips}
use Rattle.dimacs_network.proofs.SkipLemmas.{skipped}
use Rattle.dimacs_judging.specs.{Flows.{sum_nodes}, inside.Ranges.{IsOfSize}}
use Rattle.dimacs_judging.proofs.Sums.{sum_nodes-same}
use Rattle.dimacs_decide.specs.{FeasibilityDecision.{imbalance_at, total_excess}, inside.Imbalances.{AreImbalances}}

-- the sum of the excesses of the nodes below this one, which is bounded
pub record IsExcessBelow (imbalance : ℕ → ℤ) (id : ℕ) (sum : ℤ) : Type 0 where
  pub is : sum ≡ sum_nodes (λ v. pos (positive_part (imbalance v))) (id - 1)
  pub least : pos 0 ≤ℤ sum
  pub most : sum ≤ℤ pos (id * 2 ^ 99)

part_size : (z : ℤ) → IsOfSize (2 ^ 99) z → positive_part z ≤ 2 ^ 99
part_size (pos n) h = omega (arith, ints, h.1)
part_size (negsuc n) h = omega arith

pub excess_none : (imbalance : ℕ → ℤ) → IsExcessBelow imbalance 1 (pos 0)
excess_none imbalance = record { is = refl; least = omega (arith, ints); most = omega (arith, ints) }

pub excess_more : (imbalance : ℕ → ℤ) (id : ℕ) (sum : ℤ) → 1 ≤ id → IsOfSize (2 ^ 99) (imbalance id) → IsExcessBelow imbalance id sum → IsExcessBelow imbalance (id + 1) (sum +ℤ pos (positive_part (imbalance id)))
excess_more imbalance zero sum some size is = absurd (omega (arith, some))
excess_more imbalance (suc id) sum some size is =
    let small = part_size (imbalance (suc id)) size in
    let f : ℕ → ℤ = λ v. pos (positive_part (imbalance v)) in
    let e : suc id - 1 ≡ id = omega arith in
    let o : suc id + 1 - 1 ≡ suc id = omega arith in
    let before : sum_nodes f (suc id - 1) ≡ sum_nodes f id = ap (sum_nodes f) e in
    let after : sum_nodes f (suc id + 1 - 1) ≡ sum_nodes f (suc id) = ap (sum_nodes f) o in
    record {
      is = omega (arith, ints, is.is, before, after);
      least = omega (arith, ints, is.least);
      most = omega (arith, ints, is.most, small);
    }

pub excess_skipped : (imbalance : ℕ → ℤ) (from end to : ℕ) (sum : ℤ) → 1 ≤ from → Skips (λ v. imbalance v ≡ pos 0) from end to → IsExcessBelow imbalance from sum → IsExcessBelow imbalance to sum
excess_skipped imbalance from end to sum low is =
    skipped _ (λ n. IsExcessBelow imbalance n sum) from end to is
    (λ v least below none so_far.
    let part : pos (positive_part (imbalance v)) ≡ pos 0 = ap (λ z. pos (positive_part z)) none in
    let same : sum +ℤ pos (positive_part (imbalance v)) ≡ sum = omega (arith, ints, part) in
    subst (IsExcessBelow imbalance (v + 1)) same (excess_more imbalance v sum (omega (arith, low, least)) (omega (arith, ints, none), omega (arith, ints, none)) so_far))

pub excess_is : (i : MinValue) (x : List ℤ) (imbalance : ℕ → ℤ) → AreImbalances i x imbalance → sum_nodes (λ v. pos (positive_part (imbalance v))) i.nodes ≡ total_excess i x
excess_is i x imbalance are = sum_nodes-same (λ v. pos (positive_part (imbalance v))) (λ v. pos (positive_part (imbalance_at i x v))) i.nodes (λ v h. ap (λ (z : ℤ). pos (positive_part z)) (are v h))

-- ---- the sum of all
sum_some : (f : ℕ → ℕ) (n : ℕ) → pos 0 ≤ℤ sum_nodes (λ v. pos (f v)) n
sum_some f zero = omega (arith, ints)
sum_some f (suc n) = omega (arith, ints, sum_some f n)

pub excess_some : (i : MinValue) (x : List ℤ) → pos 0 ≤ℤ total_excess i x
excess_some i x = sum_some (λ v. positive_part (imbalance_at i x v)) i.nodes
