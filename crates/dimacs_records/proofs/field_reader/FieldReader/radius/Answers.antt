use Rattle.std.proofs.{Common.{◌≡◌, refl, sym, rules, None}, lemmas.Int.{to_z-of_z}}
use Rattle.std.specs.Int.{w128}
use Rattle.dimacs_records.specs.{Forms.{Radius}, Spelling.{Amount, SpellsField}, inside.FieldReader.{field_reason}}
use Rattle.dimacs_records.proofs.FieldLemmas.{field_reason-said, or_else-none}
use Rattle.dimacs_records.proofs.field_reader.FieldReader.radius.Goals as goal

pub returns-in-Ok : goal.returns-in-Ok
returns-in-Ok c =
    let n = c.in-Ok.n in
    let text = c.in_ok-token.token.field.text.now in
    let said : SpellsField Radius text (Amount n) = c.in-Ok.ensures in
    let clean : field_reason Radius text ≡ None = field_reason-said Radius text (Amount n) said in
    rw (c.in_ok-token.ensures.some, to_z-of_z w128 n (search rules)) (refl, refl, rw clean (sym (or_else-none c.args.self.now.fault)), λ h. said)
