use Rattle.std.proofs.{Common.{◌≡◌, ◌+◌, ◌-◌, ◌%◌, ◌≤◌, length, ap, sym, ◌∙◌, arith, bit_and}, lemmas.Nat.{trailing_le}}
use Rattle.std.specs.{Int.Count.{count_trailing_zeros}, List.{slice_index}}
use Rattle.dimacs_lines.specs.inside.Plain.{ends_from}
use Rattle.dimacs_lines.proofs.EndMarks.{digits_left, end_is, ends_after, left_digits}
use Rattle.dimacs_lines.proofs.plain.PlainNumbers.digit_run.Goals as goal

pub invariant_of-self : goal.invariant_of-self
invariant_of-self c =
    let bytes = c.self.inside.bytes.now in
    let start = c.self.inside.start in
    let at = c.self.inside.at in
    let ends = c.self.inside.ends in
    let room : start + 32 ≤ length bytes = omega (arith, c.self.invariant.0) in
    let early : at ≤ 32 = omega (arith, c.self.invariant.1, c.if-count-least-ge8.false, trailing_le 32 ends, c.requires.at_most_nine) in
    let is = c.self.invariant.2 in
    let end : count_trailing_zeros 32 ends ≡ at + digits_left bytes start at = ap (count_trailing_zeros 32) is ∙ end_is bytes start at room early in
    let next : at + digits_left bytes start at + 1 ≡ count_trailing_zeros 32 ends + 1 = omega (arith, end) in
    (c.self.invariant.0, omega (arith, trailing_le 32 ends), ap (λ n. bit_and n ((n + 4294967295) % 4294967296)) is ∙ ends_after bytes start at room early ∙ ap (ends_from bytes start) next)

pub returns-clause-run : goal.returns-clause-run
returns-clause-run c =
    let bytes = c.self.inside.bytes.now in
    let start = c.self.inside.start in
    let at = c.self.inside.at in
    let ends = c.self.inside.ends in
    let room : start + 32 ≤ length bytes = omega (arith, c.self.invariant.0) in
    let late = trailing_le 32 ends in
    let early : at ≤ 32 = omega (arith, c.self.invariant.1, c.if-count-least-ge8.false, late, c.requires.at_most_nine) in
    let end : count_trailing_zeros 32 ends ≡ at + digits_left bytes start at = ap (count_trailing_zeros 32) c.self.invariant.2 ∙ end_is bytes start at room early in
    let count : (count_trailing_zeros 32 ends + (18446744073709551616 - at)) % 18446744073709551616 ≡ digits_left bytes start at = omega (arith, end, early, late) in
    let reached : start + count_trailing_zeros 32 ends ≡ start + at + digits_left bytes start at = omega (arith, end) in
    rw (← c.self.view_is, count) (record {
      each = left_digits bytes start at early;
      stops = ap (λ n. slice_index bytes n) (sym reached) ∙ c.if-self-end.false;
      passed = omega (arith, end);
      within = omega (arith, late, c.self.invariant.0);
      room = omega (arith, c.self.invariant.0, c.if-count-least-ge8.false, late, c.requires.positive);
    })
