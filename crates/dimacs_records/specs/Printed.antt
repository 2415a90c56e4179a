-- Printed lines, field by field.
use Rattle.std.specs.{Prelude.{ℕ, List, [], ◌∷◌, ◌++◌, codes, map}, List.{flat_map}, Fmt.{signed_decimal}}
use Rattle.dimacs_records.specs.{declared.printed.Part.{Part}, declared.printed.Part.TheVariants.{Word, Number, Wide}}

abbrev pub after_blank : List ℕ → List ℕ
after_blank field = 32 ∷ field

-- these fields with one blank between them, then byte 10
abbrev pub spaced_line : List ℕ → List (List ℕ) → List ℕ
spaced_line first fields = first ++ (flat_map after_blank fields ++ 10 ∷ [])

-- the line that `show` puts
abbrev pub shown : List (List ℕ) → List ℕ
shown parts = spaced_line (codes "i") parts

abbrev pub printed : Part → List ℕ
printed (Word word) = word.now
printed (Number n) = signed_decimal n
printed (Wide n) = signed_decimal n

abbrev pub printed_line : List ℕ → List Part → List ℕ
printed_line word parts = spaced_line word (map printed parts)
