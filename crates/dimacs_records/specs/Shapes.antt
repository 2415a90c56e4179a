-- When the fields of a line spell no record, by reason.
use Rattle.std.specs.Prelude.{ℕ, suc, ◌==◌, Bool, false, ◌&&◌, ◌||◌, not, List, [], ◌∷◌, length, Option, Some, None, nat_lt, int_lt, if◌then◌else◌}
use Rattle.std.specs.{List.{list_all}, Char.{is_ascii_digit}, Str.{bytes_eq}}
use Rattle.dimacs_lines.specs.Number.{digits_of, number_in}
use Rattle.dimacs_records.specs.{declared.kinds.TextKind.{TextKind}, declared.reasons.Reason.{Reason}}
use Rattle.dimacs_records.specs.declared.reasons.Reason.TheVariants.{UnknownLine, FieldCount, BadNumber, NumberRange, BadWord}
use Rattle.dimacs_records.specs.Forms.{FieldType, Word, Either, Number, Form, forms}

-- an optional sign and one or more digits
abbrev pub is_number : List ℕ → Bool
is_number text = nat_lt 0 (length (digits_of text)) && list_all is_ascii_digit (digits_of text)

-- the condition of a reason holds for a field of this type
abbrev pub field_condition : FieldType → List ℕ → Reason → Bool
field_condition (Number low high) text BadNumber = not (is_number text)
field_condition (Number low high) text NumberRange = is_number text && (int_lt (number_in text) low || int_lt high (number_in text))
field_condition (Word w) text BadWord = not (bytes_eq w text)
field_condition (Either v w) text BadWord = not (bytes_eq v text) && not (bytes_eq w text)
field_condition type text reason = false

-- the condition holds for field f; the first of these fields is field n
abbrev pub fields_condition : ℕ → List FieldType → List (List ℕ) → ℕ → Reason → Bool
fields_condition n (type ∷ types) (text ∷ texts) f reason = if f == n then field_condition type text reason else fields_condition (suc n) types texts f reason
fields_condition n types texts f reason = false

-- these types if there are so many of them or no others; otherwise the others
abbrev pub types_or : ℕ → List FieldType → Option (List FieldType) → List FieldType
types_or count types None = types
types_or count types (Some others) = if length types == count then types else others

-- the types of so many fields after a letter: those of its form with so many, otherwise of its last form
abbrev pub types_in : List Form → List ℕ → ℕ → Option (List FieldType)
types_in [] letter count = None
types_in (form ∷ more) letter count =
    if bytes_eq form.letter letter then Some (types_or count form.types (types_in more letter count)) else types_in more letter count

-- the condition of a reason holds for field f of a line with this letter
abbrev pub letter_condition : Option (List FieldType) → List (List ℕ) → ℕ → Reason → Bool
letter_condition None after f UnknownLine = f == 1
letter_condition None after f reason = false
letter_condition (Some types) after f FieldCount = (f == 0) && not (length types == length after)
letter_condition (Some types) after f reason = fields_condition 2 types after f reason

abbrev pub shape_condition : TextKind → List (List ℕ) → ℕ → Reason → Bool
shape_condition kind [] f reason = false
shape_condition kind (letter ∷ after) f reason = letter_condition (types_in (forms kind) letter (length after)) after f reason
