use Rattle.std.proofs.Common.{◌≡◌, ◌+◌, ◌-◌, ℕ, arith, take, drop, sym, subst, rules, w64, SFits}
use Rattle.dimacs_lines.specs.Number.{Spells}
use Rattle.dimacs_lines.proofs.DigitLemmas.{kept}
use Rattle.dimacs_lines.proofs.scan.token_at.Goals as goal

pub invariant_of-result : goal.invariant_of-result
invariant_of-result c =
    let line = c.args.line.now in
    let start = c.args.start in
    let plain = c.in-Some.plain in
    let fits : SFits w64 plain.number = search rules in
    let size : start + plain.length - start ≡ plain.length = omega arith in
    let P : ℕ → Type 0 = λ k. Spells (take k (drop start line)) plain.number in
    record { right = λ n is. kept (take (start + plain.length - start) (drop start line)) plain.number n fits (subst P (sym size) c.in-Some.ensures.number) is }
