-- Inside: weights between distances.
use Rattle.std.specs.Prelude.{◌≡◌, ◌⊎◌, Option, Some, None, ℤ, ◌+ℤ◌, ◌<ℤ◌}

-- `from` is a distance, and `to` is none or greater than `from + weight`
abbrev pub Improves : Option ℤ → Option ℤ → ℤ → Type 0
Improves from to weight = (a : ℤ) × (from ≡ Some a) × ((to ≡ None) ⊎ ((b : ℤ) × (to ≡ Some b) × ((a +ℤ weight) <ℤ b)))

-- both are distances, and `to` is `from + weight`
abbrev pub IsTight : Option ℤ → Option ℤ → ℤ → Type 0
IsTight from to weight = (a : ℤ) × (from ≡ Some a) × (to ≡ Some (a +ℤ weight))
