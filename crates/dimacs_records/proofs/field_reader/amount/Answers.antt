use Rattle.std.proofs.{Common.{◌≡◌, true, false, rules, w64, SFits}, lemmas.Int.{to_z-of_z}}
use Rattle.std.specs.Prelude.{int_lt}
use Rattle.dimacs_records.proofs.FieldLemmas.{field_reason-refused, field_reason-low, field_reason-high, refused_within}
use Rattle.dimacs_records.proofs.field_reader.amount.Goals as goal

pub returns-in-Ok : goal.returns-in-Ok
returns-in-Ok c =
    let n = c.in-Ok.n in
    let low = c.args.low in
    let below : int_lt n low ≡ true = rw (to_z-of_z w64 n (search rules), to_z-of_z w64 low (search rules)) at c.if-n-low.true in
    field_reason-low low c.args.high n c.args.token.now.field.text.now c.in-Ok.ensures.0 below

pub returns-in-Ok-2 : goal.returns-in-Ok-2
returns-in-Ok-2 c =
    let n = c.in-Ok.n in
    let low = c.args.low in
    let high = c.args.high in
    let not_below : int_lt n low ≡ false = rw (to_z-of_z w64 n (search rules), to_z-of_z w64 low (search rules)) at c.if-n-low.false in
    let above : int_lt high n ≡ true = rw (to_z-of_z w64 n (search rules), to_z-of_z w64 high (search rules)) at c.if-high-n.true in
    field_reason-high low high n c.args.token.now.field.text.now c.in-Ok.ensures.0 not_below above

pub returns-in-Err : goal.returns-in-Err
returns-in-Err c =
    let text = c.args.token.now.field.text.now in
    let low_fits : SFits w64 c.args.low = search rules in
    let high_fits : SFits w64 c.args.high = search rules in
    rw c.number_reason.ensures (field_reason-refused c.args.low c.args.high text c.in-Err.fault (refused_within c.args.low c.args.high text c.in-Err.fault low_fits high_fits c.in-Err.ensures))
