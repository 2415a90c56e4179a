use Rattle.std.proofs.{Common.{sym, ap, arith, length}, lemmas.List.Sums.{position_or_len_is}}
use Rattle.std.specs.Prelude.{not}
use Rattle.dimacs_lines.specs.Fields.{is_blank}
use Rattle.dimacs_lines.proofs.scan.leading_blanks.Goals as goal

pub returns-then-not-is_blank-clause-length : goal.returns-then-not-is_blank-clause-length
returns-then-not-is_blank-clause-length c =
    sym (position_or_len_is (λ b. not (is_blank b)) c.args.bytes.now c.loop-i.i 0 (omega arith) (λ k below. ap not (c.loop-i.invariant k below)) (λ _. ap not (sym c.if-not-is_blank.ensures)))

pub returns-clause-length : goal.returns-clause-length
returns-clause-length c =
    sym (position_or_len_is (λ b. not (is_blank b)) c.args.bytes.now (length c.args.bytes.now) 0 (omega arith) (λ k below. ap not (c.loop-i.invariant k (omega arith))) (λ h. absurd (omega arith)))
