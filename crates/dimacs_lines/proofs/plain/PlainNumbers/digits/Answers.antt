use Rattle.std.proofs.Common.{◌≡◌, take, drop, ap, ◌∙◌, arith}
use Rattle.dimacs_lines.specs.{Number.{place_sum}, Plain.{NumbersLeft}}
use Rattle.dimacs_lines.proofs.PlainLemmas.{digits_stand, few_below}
use Rattle.dimacs_lines.proofs.plain.PlainNumbers.digits.Goals as goal

pub returns-clause-digits : goal.returns-clause-digits
returns-clause-digits c =
    let found = c.in_ok-count.ensures in
    let count = c.in_ok-count.count in
    let left = c.args.self.now in
    let same : c.self.inside.bytes.now ≡ left.bytes = ap (λ (l : NumbersLeft). l.bytes) c.self.view_is ∙ found.bytes in
    let says : c.digits_value.result ≡ place_sum (take count (drop left.at left.bytes)) = rw (same, c.at-at.ensures) at c.digits_value.ensures in
    let stand = digits_stand left.bytes left.at c.args.stop count c.digits_value.result (omega (arith, found.run.passed, found.run.within)) (omega (arith, found.length)) (omega (arith, found.length)) found.run.each says found.run.stops in
    rw found.run.passed stand

pub returns-clause-range : goal.returns-clause-range
returns-clause-range c =
    let found = c.in_ok-count.ensures in
    let same : c.self.inside.bytes.now ≡ c.args.self.now.bytes = ap (λ (left : NumbersLeft). left.bytes) c.self.view_is ∙ found.bytes in
    rw (c.digits_value.ensures, same, c.at-at.ensures) (few_below c.in_ok-count.count (drop c.args.self.now.at c.args.self.now.bytes) (omega (arith, found.length)) found.run.each)
