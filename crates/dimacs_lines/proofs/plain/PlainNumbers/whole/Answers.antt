use Rattle.std.proofs.{Common.{◌≡◌, ◌+◌, ◌<◌, ◌^◌, ◌-ℤ◌, ℕ, pos, neg_ℤ, to_z, of_z, w64, arith}, lemmas.Int.{ints}}
use Rattle.dimacs_lines.specs.inside.Plain.{DigitsAt}
use Rattle.dimacs_lines.proofs.PlainLemmas.{as_signed, stands_digits, stands_minus}
use Rattle.dimacs_lines.proofs.plain.PlainNumbers.whole.Goals as goal

as_minus : (n : ℕ) → n < 10 ^ 16 → to_z w64 (of_z w64 (pos 0 -ℤ to_z w64 n)) ≡ neg_ℤ (pos n)
as_minus n fit = omega (arith, ints, fit)

pub returns-then-minus-clause-stands : goal.returns-then-minus-clause-stands
returns-then-minus-clause-stands c =
    let bytes = c.args.self.now.bytes in
    let at = c.args.self.now.at in
    let size = c.in_ok-size.field-0 in
    let next = c.sixteen_digits.new.self.at in
    let minus = c.if-minus.ensures in
    let digits : DigitsAt bytes (at + 1) c.args.stop size next = rw minus.passed at c.in_ok-size.ensures.digits in
    rw (as_minus size c.in_ok-size.ensures.range) (stands_minus bytes at c.args.stop size next minus.within minus.minus digits)

pub returns-else-minus-clause-stands : goal.returns-else-minus-clause-stands
returns-else-minus-clause-stands c =
    let size = c.in_ok-size.field-0 in
    let digits : DigitsAt c.args.self.now.bytes c.args.self.now.at c.args.stop size c.sixteen_digits.new.self.at = rw c.if-minus.ensures at c.in_ok-size.ensures.digits in
    rw (as_signed size c.in_ok-size.ensures.range) (stands_digits c.args.self.now.bytes c.args.self.now.at c.args.stop size c.sixteen_digits.new.self.at digits)
