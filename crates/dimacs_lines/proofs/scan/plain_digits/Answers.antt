use Rattle.std.proofs.Common.{◌≡◌, ◌+◌, ◌<◌, ◌≤◌, true, ℕ, List, refl, arith, length, take, drop, get_or, length-drop}
use Rattle.std.proofs.{lemmas.List.Sums.{prefix_len-le-length}, lemmas.List.{get_or-drop, length-take}}
use Rattle.std.specs.{Char.{is_ascii_digit}, List.{prefix_len}}
use Rattle.dimacs_lines.specs.Fields.{is_blank}
use Rattle.dimacs_lines.proofs.DigitLemmas.{All-digits, run_of_digits}
use Rattle.dimacs_lines.proofs.scan.plain_digits.Goals as goal

-- the digits stand within the line
digits_within : (at n : ℕ) (line : List ℕ) → at ≤ length line → n ≡ prefix_len is_ascii_digit (take 8 (drop at line)) → at + n ≤ length line
digits_within at n line inside counted = omega (arith, counted, prefix_len-le-length is_ascii_digit (take 8 (drop at line)), length-take 8 (drop at line), length-drop at line)

pub ends_at-requires : goal.ends_at-requires
ends_at-requires c = digits_within c.args.at c.in_ok-count.count c.args.line.now c.requires c.in_ok-count.ensures.count

pub returns-then-ends_at-clause-within : goal.returns-then-ends_at-clause-within
returns-then-ends_at-clause-within c = digits_within c.args.at c.in_ok-count.count c.args.line.now c.requires c.in_ok-count.ensures.count

pub returns-then-ends_at-clause-run : goal.returns-then-ends_at-clause-run
returns-then-ends_at-clause-run c =
    let line = c.args.line.now in
    let n = c.in_ok-count.count in
    let ends : c.args.at + n < length line → is_blank (get_or line (c.args.at + n) 0) ≡ true = c.if-ends_at.ensures.0 refl in
    run_of_digits (drop c.args.at line) n c.in_ok-count.ensures.count (λ more. rw (get_or-drop c.args.at line n 0) (ends (omega (arith, more, length-drop c.args.at line))))

pub returns-then-ends_at-clause-digits : goal.returns-then-ends_at-clause-digits
returns-then-ends_at-clause-digits c = All-digits 8 (drop c.args.at c.args.line.now) c.in_ok-count.count c.in_ok-count.ensures.count
