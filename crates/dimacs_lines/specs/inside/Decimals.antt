-- Inside: the decimal digits of small numbers.
use Rattle.std.specs.Prelude.{ℕ, ◌+◌, ◌/◌, ◌%◌, ◌∷◌, [], List}

-- the two digits of a number below a hundred; the first may be a zero
abbrev pub two_digits : ℕ → List ℕ
two_digits n = (48 + n / 10) ∷ (48 + n % 10) ∷ []
