use Rattle.std.proofs.Common.{◌^◌}
use Rattle.std.specs.Prelude.{pos, neg_ℤ}
use Rattle.dimacs_records.proofs.FieldLemmas.{field_reason-refused}
use Rattle.dimacs_records.proofs.field_reader.wide_amount.Goals as goal

pub returns-in-Err : goal.returns-in-Err
returns-in-Err c =
    rw c.number_reason.ensures (field_reason-refused (neg_ℤ (pos (10 ^ 30))) (pos (10 ^ 30)) c.args.token.now.field.text.now c.in-Err.fault c.in-Err.ensures)
