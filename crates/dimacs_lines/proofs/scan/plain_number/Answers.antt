use Rattle.std.proofs.Common.{◌≡◌, ◌+◌, ◌<◌, ◌∙◌, ◌∷◌, ℕ, List, ap, arith, length, take, drop, get_or, length-drop}
use Rattle.std.proofs.lemmas.List.{length-take, drop_more}
use Rattle.std.specs.List.{position_or_len}
use Rattle.dimacs_lines.specs.{Fields.{is_blank}, Number.{place_sum}}
use Rattle.dimacs_lines.proofs.DigitLemmas.{spells_digits, spells_minus, minus_in_front, read_back, read_minus}
use Rattle.dimacs_lines.proofs.scan.plain_number.Goals as goal

-- a minus makes the run one byte longer
minus_run : (line : List ℕ) (start n : ℕ) → start < length line → get_or line start 0 ≡ 45 → n ≡ position_or_len is_blank (drop (start + 1) line) → n + 1 ≡ position_or_len is_blank (drop start line)
minus_run line start n inside minus run =
    let cut : drop start line ≡ 45 ∷ drop (start + 1) line = drop_more line start 0 inside ∙ ap (λ b. b ∷ drop (start + 1) line) minus in
    let one : n + 1 ≡ 1 + n = omega arith in
    rw cut (one ∙ ap (λ m. 1 + m) run)

pub returns-in_ok-count-clause-length : goal.returns-in_ok-count-clause-length
returns-in_ok-count-clause-length c = minus_run c.args.line.now c.args.start c.in_ok-count.count c.requires c.if-line-start-eq45.true c.in_ok-count.ensures.run

pub returns-in_ok-count-clause-number : goal.returns-in_ok-count-clause-number
returns-in_ok-count-clause-number c =
    let line = c.args.line.now in
    let start = c.args.start in
    let n = c.in_ok-count.count in
    let found = c.in_ok-count.ensures in
    let digits = take n (drop (start + 1) line) in
    let some : 0 < length digits = omega (arith, found.positive, found.within, length-take n (drop (start + 1) line), length-drop (start + 1) line) in
    let spelled = spells_minus digits some found.digits in
    rw (minus_in_front line start n c.requires c.if-line-start-eq45.true) (spelled.0, read_minus c.from.result c.in_ok-count.size (place_sum digits) c.from.ensures found.value c.from.type_inv)

pub returns-in_ok-count-2-clause-number : goal.returns-in_ok-count-2-clause-number
returns-in_ok-count-2-clause-number c =
    let line = c.args.line.now in
    let start = c.args.start in
    let n = c.in_ok-count-2.count in
    let found = c.in_ok-count-2.ensures in
    let digits = take n (drop start line) in
    let some : 0 < length digits = omega (arith, found.positive, found.within, length-take n (drop start line), length-drop start line) in
    let spelled = spells_digits digits some found.digits in
    (spelled.0, read_back c.from-else-line-start-eq45.result c.in_ok-count-2.size (place_sum digits) c.from-else-line-start-eq45.ensures found.value c.from-else-line-start-eq45.type_inv ∙ spelled.1)
