use Rattle.std.proofs.{Common.{◌≡◌, refl, sym, rules, None}, lemmas.Int.{to_z-of_z}}
use Rattle.std.specs.Int.{w128}
use Rattle.dimacs_records.specs.{Forms.{Wide}, Spelling.{Amount, SpellsField}, inside.FieldReader.{field_reason}}
use Rattle.dimacs_records.proofs.FieldLemmas.{field_reason-said, or_else-none}
use Rattle.dimacs_records.proofs.field_reader.FieldReader.wide.Goals as goal

pub returns-in-Ok : goal.returns-in-Ok
returns-in-Ok c =
    let n = c.in-Ok.n in
    let text = c.in-Some.token.field.text.now in
    let said : SpellsField Wide text (Amount n) = c.in-Ok.ensures in
    let clean : field_reason Wide text ≡ None = field_reason-said Wide text (Amount n) said in
    rw (c.in-Some.ensures.some, to_z-of_z w128 n (search rules)) (refl, refl, rw clean (sym (or_else-none c.args.self.now.fault)), λ h. said)
