-- Inside: reading typed fields one after another, with the first fault among them.
use Rattle.std.specs.Prelude.{ℕ, suc, ◌≡◌, ◌==◌, true, false, List, [], ◌∷◌, Bool, ◌||◌, not, ℤ, Option, Some, None, Result, Ok, Err, if◌then◌else◌, length, map}
use Rattle.dimacs_lines.specs.{Fields.{Run}, declared.numbers.NumberFault.{NumberFault}}
use Rattle.dimacs_records.specs.{declared.kinds.TextKind.{TextKind}, declared.records.Record.{Record}}
use Rattle.dimacs_records.specs.{declared.reasons.Reason.{Reason}, declared.faults.LineFault.{LineFault}}
use Rattle.dimacs_records.specs.declared.reasons.Reason.TheVariants.{UnknownLine, FieldCount, BadNumber, NumberRange, BadWord}
use Rattle.dimacs_records.specs.{declared.field_reader.Choice.{Choice}, declared.field_reader.FieldReader.{FieldReader}}
use Rattle.dimacs_records.specs.{declared.field_reader.Choice.TheVariants.{Former, Latter}, Earlier.{or_else}}
use Rattle.dimacs_records.specs.{Forms.{FieldType, Number, Radius, forms}, Shapes.{field_condition, types_in}}
use Rattle.dimacs_records.specs.Spelling.{Part, Amount, SpellsField, SpellFields, kind_of, letter_of, parts_of}
use Rattle.dimacs_lines.specs.declared.numbers.NumberFault.TheVariants as number_faults

abbrev pub fault_at : ℕ → Reason → LineFault
fault_at field reason = record { field = field; reason = reason }

-- the first reason to refuse a field of this type
abbrev pub field_reason : FieldType → List ℕ → Option Reason
field_reason type text =
    if field_condition type text BadNumber then Some BadNumber
    else if field_condition type text NumberRange then Some NumberRange
    else if field_condition type text BadWord then Some BadWord
    else None

abbrev pub fault_in : ℕ → Option Reason → Option LineFault
fault_in f None = None
fault_in f (Some reason) = Some (fault_at f reason)

-- the first fault from left to right; the first field is field f
abbrev pub fields_fault : ℕ → List FieldType → List (List ℕ) → Option LineFault
fields_fault f (type ∷ types) (text ∷ texts) = or_else (fault_in f (field_reason type text)) (fields_fault (suc f) types texts)
fields_fault f types texts = None

-- the first fault of the fields after a letter
abbrev pub form_fault : List FieldType → List (List ℕ) → Option LineFault
form_fault types texts = if length types == length texts then fields_fault 2 types texts else Some (fault_at 0 FieldCount)

-- field f, of this type, was taken; unless it has a fault, this is its content
abbrev pub TakesNext : ℕ → FieldType → List Run → FieldReader → Part → FieldReader → Type 0
TakesNext f type [] old part new = new.missing ≡ true
TakesNext f type (run ∷ runs) old part new = (new.scan ≡ runs) × (new.missing ≡ old.missing)
    × (new.fault ≡ or_else old.fault (fault_in f (field_reason type run.text))) × (field_reason type run.text ≡ None → SpellsField type run.text part)

abbrev pub TakesField : ℕ → FieldType → FieldReader → Part → FieldReader → Type 0
TakesField f type old part new = TakesNext f type old.scan old part new

-- the last field, which is optional, was taken: none is left, or field f of this type
abbrev pub TakesLast : ℕ → List Run → FieldReader → Option ℤ → FieldReader → Type 0
TakesLast f [] old None new = new ≡ old
TakesLast f (run ∷ runs) old (Some radius) new = TakesNext f Radius (run ∷ runs) old (Amount radius) new
TakesLast f runs old radius new = ⊥

abbrev pub is_none_left : List Run → Bool
is_none_left [] = true
is_none_left (run ∷ runs) = false

abbrev pub without_fault : Option LineFault → Record → Result (Option Record) LineFault
without_fault None r = Ok (Some r)
without_fault (Some fault) r = Err fault

-- the record, if each field was there without a fault and none is left
abbrev pub finished : FieldReader → Record → Result (Option Record) LineFault
finished fields r = if fields.missing || not (is_none_left fields.scan) then Err (fault_at 0 FieldCount) else without_fault fields.fault r

-- the chosen one of two words
abbrev pub word_of : List ℕ → List ℕ → Choice → List ℕ
word_of former latter Former = former
word_of former latter Latter = latter

-- why a field that spells no number of its range is refused
abbrev pub number_reason : NumberFault → Reason
number_reason number_faults.BadNumber = BadNumber
number_reason number_faults.NumberRange = NumberRange

-- the number of a field within a range, or the first reason to refuse it
abbrev pub ReadsAmount : ℤ → ℤ → List ℕ → Result ℤ Reason → Type 0
ReadsAmount low high text (Ok n) = SpellsField (Number low high) text (Amount n)
ReadsAmount low high text (Err reason) = field_reason (Number low high) text ≡ Some reason

-- no field was taken yet
abbrev pub IsUntouched : FieldReader → Type 0
IsUntouched fields = (fields.missing ≡ false) × (fields.fault ≡ None)

-- the result for the fields after a letter with these types
abbrev pub ReadsForm : TextKind → List ℕ → List FieldType → List (List ℕ) → Result (Option Record) LineFault → Type 0
ReadsForm kind letter types texts (Ok None) = ⊥
ReadsForm kind letter types texts (Ok (Some r)) = (kind_of r ≡ kind) × (letter_of r ≡ letter) × (form_fault types texts ≡ None)
    × SpellFields types texts (parts_of r)
ReadsForm kind letter types texts (Err fault) = form_fault types texts ≡ Some fault

abbrev pub texts_left : FieldReader → List (List ℕ)
texts_left fields = map (λ (run : Run). run.text) fields.scan

abbrev pub text_of_run : Run → List ℕ
text_of_run run = run.text

-- the result if the letter has these types; a letter without types is unknown
abbrev pub ReadsTypes : TextKind → List ℕ → Option (List FieldType) → List (List ℕ) → Result (Option Record) LineFault → Type 0
ReadsTypes kind letter None after result = result ≡ Err (fault_at 1 UnknownLine)
ReadsTypes kind letter (Some types) after result = ReadsForm kind letter types after result

-- the result for the line of a letter
abbrev pub ReadsLetter : TextKind → List ℕ → List (List ℕ) → Result (Option Record) LineFault → Type 0
ReadsLetter kind letter after result = ReadsTypes kind letter (types_in (forms kind) letter (length after)) after result
