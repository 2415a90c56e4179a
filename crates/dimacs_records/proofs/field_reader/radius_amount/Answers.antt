use Rattle.std.proofs.{Common.{◌≡◌, ◌^◌, true, rules}, lemmas.Int.{to_z-of_z}}
use Rattle.std.specs.{Int.{w128}, Prelude.{int_lt, pos}}
use Rattle.dimacs_records.proofs.FieldLemmas.{field_reason-refused, field_reason-low, refused_radius}
use Rattle.dimacs_records.proofs.field_reader.radius_amount.Goals as goal

pub returns-in-Ok : goal.returns-in-Ok
returns-in-Ok c =
    let n = c.in-Ok.n in
    let below : int_lt n (pos 0) ≡ true = rw (to_z-of_z w128 n (search rules)) at c.if-n-lt0.true in
    field_reason-low (pos 0) (pos (10 ^ 30)) n c.args.token.now.field.text.now c.in-Ok.ensures.0 below

pub returns-in-Err : goal.returns-in-Err
returns-in-Err c =
    let text = c.args.token.now.field.text.now in
    rw c.number_reason.ensures (field_reason-refused (pos 0) (pos (10 ^ 30)) text c.in-Err.fault (refused_radius text c.in-Err.fault c.in-Err.ensures))
