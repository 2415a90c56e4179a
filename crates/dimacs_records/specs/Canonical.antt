-- The canonical form of records.
use Rattle.std.specs.Prelude.{ℕ, ◌≡◌, ◌<◌, ◌+◌, ◌⊎◌, List, [], ◌∷◌, ◌++◌, map, Option, Some, None}
use Rattle.std.specs.{List.{flat_map, Contains}, Fmt.{signed_decimal}}
use Rattle.dimacs_lines.specs.Number.{IsWithin}
use Rattle.dimacs_records.specs.{declared.kinds.TextKind.{TextKind}, declared.records.Record.{Record}}
use Rattle.dimacs_records.specs.{Forms.{FieldType, Word, Either, Number, Form, forms}, Printed.{spaced_line}}
use Rattle.dimacs_records.specs.Spelling.{Part, Text, Amount, kind_of, letter_of, parts_of}

abbrev pub text_of : Part → List ℕ
text_of (Text word) = word
text_of (Amount n) = signed_decimal n

abbrev pub line_of : List ℕ → List Part → List ℕ
line_of letter parts = spaced_line letter (map text_of parts)

abbrev pub canonical_line : Record → List ℕ
canonical_line r = line_of (letter_of r) (parts_of r)

-- the canonical lines of these records, one after another
abbrev pub canonical_text : List Record → List ℕ
canonical_text rs = flat_map canonical_line rs

abbrev pub records_of_line : Option Record → List Record
records_of_line None = []
records_of_line (Some r) = r ∷ []

-- `below i` has the records of the numbers below i, each with one record or none
pub record AreLines (spells : ℕ → Option Record → Type 0) (count : ℕ) (below : ℕ → List Record) : Type 0 where
  pub none : below 0 ≡ []
  pub more : (i : ℕ) (rec : Option Record) → i < count → spells i rec → below (i + 1) ≡ below i ++ records_of_line rec

-- no number has a record from one up to where this leads
abbrev pub SkipsNone : (ℕ → ℕ → Type 0) → (ℕ → List Record) → Type 0
SkipsNone leads below = (i j : ℕ) → leads i j → below j ≡ below i

-- a field of this type can have this content
abbrev pub Fits : FieldType → Part → Type 0
Fits (Word w) (Text word) = word ≡ w
Fits (Either v w) (Text word) = (word ≡ v) ⊎ (word ≡ w)
Fits (Number low high) (Amount n) = IsWithin low high n
Fits type part = ⊥

abbrev pub FitAll : List FieldType → List Part → Type 0
FitAll [] [] = Unit {0}
FitAll (type ∷ types) (part ∷ parts) = Fits type part × FitAll types parts
FitAll types parts = ⊥

-- some line of the kind can spell the record: its numbers are within their ranges
pub record CanBeSpelled (kind : TextKind) (r : Record) : Type 0 where
  pub form : Form
  pub of_kind : Contains (forms kind) form
  pub for_kind : kind_of r ≡ kind
  pub letter : letter_of r ≡ form.letter
  pub fit : FitAll form.types (parts_of r)
