-- The ranges of the numbers in texts.
use Rattle.std.specs.Prelude.{ℕ, ◌^◌, ◌-◌, ℤ, pos, neg_ℤ}
use Rattle.dimacs_lines.specs.{Limits.{most_nodes, IsNode}, Number.{IsWithin}}

-- an ID in a text without NODES
abbrev pub IsId : ℕ → Type 0
IsId id = IsNode most_nodes id

-- a whole number of 64 bits
abbrev pub IsWhole : ℤ → Type 0
IsWhole n = IsWithin (neg_ℤ (pos (2 ^ 63))) (pos (2 ^ 63 - 1)) n

-- a value, a cost, a potential or a distance: from -10^30 to 10^30
abbrev pub IsWide : ℤ → Type 0
IsWide n = IsWithin (neg_ℤ (pos (10 ^ 30))) (pos (10 ^ 30)) n

-- a RADIUS: the greatest distance in a block of labels
abbrev pub IsRadius : ℤ → Type 0
IsRadius n = IsWithin (pos 0) (pos (10 ^ 30)) n
