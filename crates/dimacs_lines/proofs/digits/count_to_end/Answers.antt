use Rattle.std.proofs.Common.{◌/◌, ap, sym, ◌∙◌, arith, w64}
use Rattle.std.specs.{Int.{to_le_bytes}, Int.Count.{count_trailing_zeros}}
use Rattle.dimacs_lines.proofs.Lanes.{word_of-to_le_bytes, AllBytes-to_le_bytes}
use Rattle.dimacs_lines.proofs.Marks.{marks, count_trailing_zeros-marks}
use Rattle.dimacs_lines.proofs.digits.count_to_end.Goals as goal

pub returns-clause-count : goal.returns-clause-count
returns-clause-count c =
    let word = c.args.word in
    let whole = word_of-to_le_bytes word (omega arith) in
    ap (λ n. count_trailing_zeros 64 (marks 8 n) / 8) (sym whole) ∙ count_trailing_zeros-marks (to_le_bytes w64 word) (AllBytes-to_le_bytes word)
