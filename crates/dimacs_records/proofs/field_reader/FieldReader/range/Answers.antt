use Rattle.std.proofs.{Common.{◌≡◌, refl, sym, rules, w64, None}, lemmas.Int.{to_z-of_z}}
use Rattle.dimacs_records.specs.{Forms.{Number}, Spelling.{Amount, SpellsField}, inside.FieldReader.{field_reason}}
use Rattle.dimacs_records.proofs.FieldLemmas.{field_reason-said, or_else-none}
use Rattle.dimacs_records.proofs.field_reader.FieldReader.range.Goals as goal

pub returns-in-Ok-clause-takes : goal.returns-in-Ok-clause-takes
returns-in-Ok-clause-takes c =
    let n = c.in-Ok.n in
    let low = c.args.low in
    let high = c.args.high in
    let text = c.in-Some.token.field.text.now in
    let said : SpellsField (Number low high) text (Amount n) = rw (to_z-of_z w64 low (search rules), to_z-of_z w64 high (search rules)) at c.in-Ok.ensures in
    let clean : field_reason (Number low high) text ≡ None = field_reason-said (Number low high) text (Amount n) said in
    rw (c.in-Some.ensures.some, to_z-of_z w64 n (search rules)) (refl, refl, rw clean (sym (or_else-none c.args.self.now.fault)), λ h. said)
