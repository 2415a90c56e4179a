-- A line that spells a record has no condition of its shape.
use Rattle.std.proofs.Common.{◌≡◌, ℕ, suc, ◌∷◌, [], List, Bool, true, false, Option, Some, None, length, refl, ap}
use Rattle.std.proofs.lemmas.Bool.{both_ways, eq-eqb, and_right}
use Rattle.std.specs.Prelude.{◌==◌, IsTrue, if◌then◌else◌}
use Rattle.dimacs_records.specs.{declared.kinds.TextKind.{TextKind}, declared.records.Record.{Record}}
use Rattle.dimacs_records.specs.{declared.reasons.Reason.{Reason}, Forms.{FieldType, Word, Either, Number}}
use Rattle.dimacs_records.specs.declared.reasons.Reason.TheVariants.{FieldCount, BadNumber, NumberRange, BadWord}
use Rattle.dimacs_records.specs.Spelling.{Part, SpellFields, SpellsRecord, parts_of}
use Rattle.dimacs_records.specs.Shapes.{field_condition, fields_condition, letter_condition, shape_condition}
use Rattle.dimacs_records.specs.inside.FieldReader.{field_reason}
use Rattle.dimacs_records.proofs.{FieldLemmas.{field_reason-said}, SpellLaws.{spelled_types}}

if_none : {X : Type 0} (t : Bool) (x : X) (o : Option X) → (if t then Some x else o) ≡ None → (t ≡ false) × (o ≡ None)
if_none true x o h = absurd (cc)
if_none false x o h = (refl, h)

field_tests : (type : FieldType) (text : List ℕ) → field_reason type text ≡ None
    → (field_condition type text BadNumber ≡ false) × (field_condition type text NumberRange ≡ false) × (field_condition type text BadWord ≡ false)
field_tests type text h =
    let number = if_none (field_condition type text BadNumber) BadNumber _ h in
    let range = if_none (field_condition type text NumberRange) NumberRange _ number.1 in
    (number.0, range.0, (if_none (field_condition type text BadWord) BadWord None range.1).0)

-- a field without a first reason to be refused has none
field_condition-none : (type : FieldType) (text : List ℕ) (reason : Reason) → field_reason type text ≡ None → field_condition type text reason ≡ false
field_condition-none type text BadNumber h = (field_tests type text h).0
field_condition-none type text NumberRange h = (field_tests type text h).1
field_condition-none type text BadWord h = (field_tests type text h).2
field_condition-none (Word w) text reason h = refl
field_condition-none (Either v w) text reason h = refl
field_condition-none (Number low high) text reason h = refl

if_false : (t a b : Bool) → a ≡ false → b ≡ false → (if t then a else b) ≡ false
if_false true a b e f = e
if_false false a b e f = f

fields_condition-said : (n : ℕ) (types : List FieldType) (texts : List (List ℕ)) (parts : List Part) (f : ℕ) (reason : Reason) → SpellFields types texts parts
    → fields_condition n types texts f reason ≡ false
fields_condition-said n (type ∷ types) (text ∷ texts) (part ∷ parts) f reason h =
    if_false (f == n) _ _ (field_condition-none type text reason (field_reason-said type text part h.0)) (fields_condition-said (suc n) types texts parts f reason h.1)
fields_condition-said n [] texts parts f reason h = refl
fields_condition-said n (type ∷ types) [] parts f reason h = refl
fields_condition-said n (type ∷ types) (text ∷ texts) [] f reason h = absurd h

same_count : (types : List FieldType) (texts : List (List ℕ)) (parts : List Part) → SpellFields types texts parts → length types ≡ length texts
same_count [] [] [] h = refl
same_count (type ∷ types) (text ∷ texts) (part ∷ parts) h = ap suc (same_count types texts parts h.1)
same_count types texts parts h = absurd h

letter_condition-said : (types : List FieldType) (after : List (List ℕ)) (parts : List Part) (f : ℕ) (reason : Reason) → SpellFields types after parts
    → letter_condition (Some types) after f reason ≡ false
letter_condition-said types after parts f FieldCount h = rw (eq-eqb (length types) (length after) (same_count types after parts h)) (and_right (f == 0) false refl)
letter_condition-said types after parts f reason h = fields_condition-said 2 types after parts f reason h

pub spelled_shape : (kind : TextKind) (texts : List (List ℕ)) (r : Record) → SpellsRecord kind texts r → (f : ℕ) (reason : Reason) → ¬ IsTrue (shape_condition kind texts f reason)
spelled_shape kind texts r h f reason =
    both_ways (shape_condition kind texts f reason) (rw (h.begins, spelled_types kind texts r h) (letter_condition-said h.form.types h.after (parts_of r) f reason h.spells))
