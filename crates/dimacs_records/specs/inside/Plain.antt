-- Inside: lines in the plain form: a letter, one blank before each field, and the line's end right after the last.
use Rattle.std.specs.Prelude.{ℕ, ℤ, pos, ◌+◌, ◌≡◌, ◌≤◌, List, [], ◌∷◌, ◌++◌, length, drop, Option, Some, Result, Ok, Err}
use Rattle.std.specs.List.{All, Contains}
use Rattle.dimacs_lines.specs.{Devices.{before_piece}, Lines.{lines}, Plain.{EndsAt}, Limits.{longest_line}}
use Rattle.dimacs_records.specs.{declared.faults.ReadError.{ReadError}, declared.kinds.TextKind.{TextKind}}
use Rattle.dimacs_records.specs.{declared.records.Record.{Record}, declared.plain.PlainLines.{PlainLines}}
use Rattle.dimacs_records.specs.{inside.Driver.{IsReadSoFar}, Forms.{FieldType, Id, Whole, form, forms}}
use Rattle.dimacs_records.specs.{LineReader.{ReadsLine}, Readings.{LineRecord, RefusesLine}}
use Rattle.dimacs_records.specs.Spelling.{Part, Amount, SpellFields, kind_of, letter_of, parts_of, texts_in}

-- these texts stand one after another, with a blank after each but the last, and a line end after the last
abbrev pub Stand : List ℕ → ℕ → List (List ℕ) → ℕ → Type 0
Stand bytes at [] next = ⊥
Stand bytes at (text ∷ []) next = EndsAt bytes at 10 text next
Stand bytes at (text ∷ other ∷ texts) next = (mid : ℕ) × EndsAt bytes at 32 text mid × Stand bytes mid (other ∷ texts) next

-- the bytes begin with a line of `size` bytes, its end counted, with this letter and fields of these types and contents
pub record IsPlainLine (bytes : List ℕ) (letter : ℕ) (types : List FieldType) (parts : List Part) (size : ℕ) : Type 0 where
  pub texts : List (List ℕ)
  pub begins : bytes ≡ letter ∷ 32 ∷ drop 2 bytes
  pub stand : Stand bytes 2 texts size
  pub short : All (λ (text : List ℕ). length text ≤ 40) texts
  pub spells : SpellFields types texts parts

-- lines of the kind may have this letter, two nodes and a number; the record is that of such a line
pub record SpellsArc (kind : TextKind) (letter tail head : ℕ) (n : ℤ) (r : Record) : Type 0 where
  pub among : Contains (forms kind) (form (letter ∷ []) (Id ∷ Id ∷ Whole ∷ []))
  pub of_kind : kind_of r ≡ kind
  pub of_letter : letter_of r ≡ letter ∷ []
  pub parts : parts_of r ≡ Amount (pos tail) ∷ Amount (pos head) ∷ Amount n ∷ []

-- the first line is whole and within the limits, spells this record, and has `size` bytes with its end
pub record SpellsFirst (kind : TextKind) (bytes : List ℕ) (r : Record) (size : ℕ) : Type 0 where
  pub line : List ℕ
  pub there : bytes ≡ line ++ 10 ∷ drop size bytes
  pub size_is : size ≡ length line + 1
  pub within : size ≤ length bytes
  pub first : (rest : List ℕ) → lines (line ++ 10 ∷ rest) ≡ line ∷ lines rest
  pub short : length line ≤ longest_line
  pub reads : ReadsLine kind (texts_in line) (Ok (Some r))

-- the result of reading the first lines held: they are read and the rest is left, or one of them is refused
abbrev pub TakesPlain : TextKind → List (List ℕ) → ℕ → List ℕ → Option (List ℕ) → (List LineRecord → Type 0) → Result PlainLines ReadError → Type 0
TakesPlain kind all given held coming stands_for (Ok taken) =
    IsReadSoFar kind all (given + taken.lines) (before_piece (drop taken.bytes held) coming) stands_for
TakesPlain kind all given held coming stands_for (Err error) = RefusesLine kind all error
