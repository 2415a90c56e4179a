-- The number that a field spells.
use Rattle.std.specs.Prelude.{ℕ, ◌+◌, ◌-◌, ◌*◌, ◌^◌, ◌≡◌, ◌==◌, ◌<◌, ◌||◌, Bool, false, List, [], ◌∷◌, length, if◌then◌else◌, ℤ, pos, neg_ℤ, ◌≤ℤ◌, Result, Ok, Err}
use Rattle.std.specs.{List.{All}, Char.{IsAsciiDigit}}
use Rattle.dimacs_lines.specs.declared.numbers.NumberFault.{NumberFault}
use Rattle.dimacs_lines.specs.declared.numbers.NumberFault.TheVariants.{BadNumber, NumberRange}

-- the text after an optional sign
abbrev pub digits_of : List ℕ → List ℕ
digits_of [] = []
digits_of (b ∷ bs) = if b == 43 || b == 45 then bs else b ∷ bs

-- an optional sign and one or more digits
abbrev pub IsNumber : List ℕ → Type 0
IsNumber text = (0 < length (digits_of text)) × All IsAsciiDigit (digits_of text)

-- the value of decimal digits: the sum of each digit times its power of ten
abbrev pub place_sum : List ℕ → ℕ
place_sum [] = 0
place_sum (b ∷ bs) = (b - 48) * 10 ^ length bs + place_sum bs

-- the text begins with a minus
abbrev pub is_negative : List ℕ → Bool
is_negative [] = false
is_negative (b ∷ bs) = b == 45

-- the number that a text of this form spells
abbrev pub number_in : List ℕ → ℤ
number_in text = if is_negative text then neg_ℤ (pos (place_sum (digits_of text))) else pos (place_sum (digits_of text))

-- the text spells this number
abbrev pub Spells : List ℕ → ℤ → Type 0
Spells text n = IsNumber text × (n ≡ number_in text)

abbrev pub IsWithin : ℤ → ℤ → ℤ → Type 0
IsWithin low high n = (low ≤ℤ n) × (n ≤ℤ high)

-- the result is the number if the text spells one from low to high; otherwise the reason why not
abbrev pub ReadsNumber : ℤ → ℤ → List ℕ → Result ℤ NumberFault → Type 0
ReadsNumber low high text (Ok n) = Spells text n × IsWithin low high n
ReadsNumber low high text (Err BadNumber) = ¬ IsNumber text
ReadsNumber low high text (Err NumberRange) = IsNumber text × (¬ IsWithin low high (number_in text))
