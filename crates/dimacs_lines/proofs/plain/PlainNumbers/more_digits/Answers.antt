use Rattle.std.proofs.Common.{◌≡◌, ◌+◌, ◌-◌, ◌*◌, take, drop, ap, ap₂, subst, sym, ◌∙◌, arith, take-take}
use Rattle.std.proofs.lemmas.List.Elements.{All-drop, All-take}
use Rattle.std.specs.{Char.{IsAsciiDigit}, List.{All}}
use Rattle.dimacs_lines.specs.{Number.{place_sum}, Plain.{NumbersLeft}}
use Rattle.dimacs_lines.proofs.PlainLemmas.{last_eight, few_below, place_sum-split, digits_stand}
use Rattle.dimacs_lines.proofs.plain.PlainNumbers.more_digits.Goals as goal

pub digits_value-high-requires-clause-digits : goal.digits_value-high-requires-clause-digits
digits_value-high-requires-clause-digits c =
    let count = c.in_ok-count.count in
    let left = c.digits.new.self in
    let same : c.self.inside.bytes.now ≡ left.bytes = ap (λ (l : NumbersLeft). l.bytes) c.self.view_is ∙ c.in_ok-count.ensures.bytes in
    rw (same, c.at-at.ensures) (subst (All IsAsciiDigit) (take-take (count - 8) count (drop left.at left.bytes) (omega arith)) (All-take IsAsciiDigit (count - 8) (take count (drop left.at left.bytes)) c.in_ok-count.ensures.run.each))

pub digits_value-low-requires-clause-digits : goal.digits_value-low-requires-clause-digits
digits_value-low-requires-clause-digits c =
    let found = c.in_ok-count.ensures in
    let count = c.in_ok-count.count in
    let left = c.digits.new.self in
    let same : c.self.inside.bytes.now ≡ left.bytes = ap (λ (l : NumbersLeft). l.bytes) c.self.view_is ∙ found.bytes in
    rw (same, c.at-at.ensures) (subst (All IsAsciiDigit) (last_eight left.bytes left.at count (omega (arith, found.length))) (All-drop IsAsciiDigit (count - 8) (take count (drop left.at left.bytes)) found.run.each))

pub returns-clause-digits : goal.returns-clause-digits
returns-clause-digits c =
    let found = c.in_ok-count.ensures in
    let count = c.in_ok-count.count in
    let left = c.digits.new.self in
    let same : c.self.inside.bytes.now ≡ left.bytes = ap (λ (l : NumbersLeft). l.bytes) c.self.view_is ∙ found.bytes in
    let high : c.from-2.result ≡ place_sum (take (count - 8) (drop left.at left.bytes)) = c.from-2.ensures ∙ (rw (same, c.at-at.ensures) at c.digits_value-high.ensures) in
    let low : c.from-3.result ≡ place_sum (take 8 (drop (left.at + count - 8) left.bytes)) = c.from-3.ensures ∙ (rw (same, c.at-at.ensures) at c.digits_value-low.ensures) in
    let says = ap₂ (λ h l. h * 100000000 + l) high low ∙ sym (place_sum-split left.bytes left.at count (omega (arith, found.length)) (omega (arith, found.run.passed, found.run.within))) in
    let stand = digits_stand left.bytes left.at c.args.stop count (c.from-2.result * 100000000 + c.from-3.result) (omega (arith, found.run.passed, found.run.within)) (omega (arith, found.length)) (omega (arith, found.length)) found.run.each says found.run.stops in
    rw (← c.in_default.ensures.none, found.run.passed) stand

pub returns-clause-range : goal.returns-clause-range
returns-clause-range c =
    let found = c.in_ok-count.ensures in
    let count = c.in_ok-count.count in
    let left = c.digits.new.self in
    let same : c.self.inside.bytes.now ≡ left.bytes = ap (λ (l : NumbersLeft). l.bytes) c.self.view_is ∙ found.bytes in
    let high : c.digits_value-high.result ≡ place_sum (take (count - 8) (drop left.at left.bytes)) = rw (same, c.at-at.ensures) at c.digits_value-high.ensures in
    let low : c.digits_value-low.result ≡ place_sum (take 8 (drop (left.at + count - 8) left.bytes)) = rw (same, c.at-at.ensures) at c.digits_value-low.ensures in
    let last = subst (All IsAsciiDigit) (last_eight left.bytes left.at count (omega (arith, found.length))) (All-drop IsAsciiDigit (count - 8) (take count (drop left.at left.bytes)) found.run.each) in
    let first = subst (All IsAsciiDigit) (take-take (count - 8) count (drop left.at left.bytes) (omega arith)) (All-take IsAsciiDigit (count - 8) (take count (drop left.at left.bytes)) found.run.each) in
    omega (arith, c.from-2.ensures, c.from-3.ensures, high, low, few_below (count - 8) (drop left.at left.bytes) (omega (arith, found.length)) first, few_below 8 (drop (left.at + count - 8) left.bytes) (omega arith) last)
