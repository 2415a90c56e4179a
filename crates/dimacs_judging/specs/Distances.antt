-- Distances in numbers of a fixed width.
use Rattle.std.specs.Prelude.{if◌then◌else◌, Option, Some, None, ℤ, ◌<ℤ◌, ◌≤ℤ◌, int_lt}

-- d is from `low` up to `end`, without `end`
abbrev pub Fits : ℤ → ℤ → ℤ → Type 0
Fits low end d = (low ≤ℤ d) × (d <ℤ end)

-- the distance in a number: none from `end` on
abbrev pub below : ℤ → ℤ → Option ℤ
below end d = if int_lt d end then Some d else None
