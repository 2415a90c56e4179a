-- Which routes are shown.
use Rattle.std.specs.Prelude.{◌≤ℤ◌, All, Contains}
use Rattle.dimacs_claims.specs.{declared.label_list.Label.{Label}, Labels.{BlockValue}}

-- a label of the block, and none has a greater distance
abbrev pub IsFarthest : BlockValue → Label → Type 0
IsFarthest b l = Contains b.labels l × All (λ (other : Label). other.dist ≤ℤ l.dist) b.labels
