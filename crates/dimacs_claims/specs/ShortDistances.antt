-- Distances of 32 bits.
use Rattle.std.specs.Prelude.{◌^◌, ◌-◌, ℤ, pos, neg_ℤ, ◌≤ℤ◌, ◌<ℤ◌}

-- a number of 32 bits, but not the greatest
abbrev pub IsShort : ℤ → Type 0
IsShort d = (neg_ℤ (pos (2 ^ 31)) ≤ℤ d) × (d <ℤ pos (2 ^ 31 - 1))
