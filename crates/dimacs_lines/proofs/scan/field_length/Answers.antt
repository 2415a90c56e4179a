use Rattle.std.proofs.{Common.{sym, arith, length}, lemmas.List.Sums.{position_or_len_is}}
use Rattle.dimacs_lines.specs.Fields.{is_blank}
use Rattle.dimacs_lines.proofs.scan.field_length.Goals as goal

pub returns-then-is_blank-clause-length : goal.returns-then-is_blank-clause-length
returns-then-is_blank-clause-length c =
    sym (position_or_len_is is_blank c.args.bytes.now c.loop-i.i 0 (omega arith) c.loop-i.invariant (λ _. sym c.if-is_blank.ensures))

pub returns-clause-length : goal.returns-clause-length
returns-clause-length c =
    sym (position_or_len_is is_blank c.args.bytes.now (length c.args.bytes.now) 0 (omega arith) (λ k below. c.loop-i.invariant k (omega arith)) (λ h. absurd (omega arith)))
