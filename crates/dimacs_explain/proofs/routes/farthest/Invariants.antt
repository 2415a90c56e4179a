use Rattle.std.proofs.Common.{◌≤ℤ◌, All, Contains, take}
use Rattle.dimacs_claims.specs.declared.label_list.Label.{Label}
use Rattle.dimacs_explain.proofs.routes.farthest.Given as goal

-- a label of the block, and none so far has a greater distance
abbrev pub invariant-loop-place : goal.invariant-loop-place
invariant-loop-place l = Contains l.block.labels l.farthest × All (λ (other : Label). other.dist ≤ℤ l.farthest.dist) (take l.place l.block.labels)
