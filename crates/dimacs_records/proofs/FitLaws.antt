-- The fields of a spelled record have their types.
use Rattle.std.proofs.Common.{◌≡◌, ℕ, ◌∷◌, [], List, Some, length}
use Rattle.dimacs_records.specs.{declared.kinds.TextKind.{TextKind}, declared.records.Record.{Record}}
use Rattle.dimacs_records.specs.{Forms.{FieldType, Word, Either, Number, forms}, Shapes.{types_in}, Readings.{IsOfKind}}
use Rattle.dimacs_records.specs.Spelling.{Part, Text, Amount, SpellsField, SpellFields, letter_of, parts_of}
use Rattle.dimacs_records.specs.Canonical.{CanBeSpelled, Fits, FitAll}
use Rattle.dimacs_records.proofs.{PlainForms.{length-parts}, SpellLaws.{as_many, form_types}}

fits_said : (type : FieldType) (text : List ℕ) (part : Part) → SpellsField type text part → Fits type part
fits_said (Word w) text (Text word) h = h.1
fits_said (Either v w) text (Text word) h = rw h.1 h.0
fits_said (Number low high) text (Amount n) h = h.1
fits_said type text part h = absurd h

fit_all_said : (types : List FieldType) (texts : List (List ℕ)) (parts : List Part) → SpellFields types texts parts → FitAll types parts
fit_all_said [] [] [] h = tt
fit_all_said (type ∷ types) (text ∷ texts) (part ∷ parts) h = (fits_said type text part h.0, fit_all_said types texts parts h.1)
fit_all_said types texts parts h = absurd h

-- the contents of a record's fields fit the types that its kind has for so many after the letter
pub fits_of : (kind : TextKind) (r : Record) (types : List FieldType) → IsOfKind kind r → types_in (forms kind) (letter_of r) (length (parts_of r)) ≡ Some types → FitAll types (parts_of r)
fits_of kind r types h found =
    let s = h.spelled in
    let known : types_in (forms kind) (letter_of r) (length (parts_of r)) ≡ Some s.form.types = rw (s.letter, (as_many s.form.types s.after (parts_of r) s.spells).1) (form_types kind s.form s.of_kind) in
    let same : types ≡ s.form.types = cc in
    rw same (fit_all_said s.form.types s.after (parts_of r) s.spells)

-- the same for a record that can be spelled
pub fits_spelled : (kind : TextKind) (r : Record) (types : List FieldType) → CanBeSpelled kind r → types_in (forms kind) (letter_of r) (length (parts_of r)) ≡ Some types → FitAll types (parts_of r)
fits_spelled kind r types can found =
    let known : types_in (forms kind) (letter_of r) (length (parts_of r)) ≡ Some can.form.types = rw (can.letter, length-parts can.form.types (parts_of r) can.fit) (form_types kind can.form can.of_kind) in
    let same : types ≡ can.form.types = cc in
    rw same can.fit
