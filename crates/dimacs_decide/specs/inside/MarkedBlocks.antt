-- Inside: a block that grows by labels with the distances of a claim, and marks of the nodes that have one.
use Rattle.std.specs.Prelude.{ℕ, ◌≡◌, ◌+◌, Bool, not, length, Option, Some, None, is_some, ℤ}
use Rattle.dimacs_claims.specs.Labels.{BlockValue, IsBlock, label}
use Rattle.dimacs_decide.specs.inside.Counting.{count_below}

-- how many of the nodes below n aren't marked
abbrev pub absent : (ℕ → Bool) → ℕ → ℕ
absent marked n = count_below (λ v. not (marked v)) n

-- each label has the distance of its node, and exactly the nodes with labels are marked
pub record IsMarkedBlock (nodes : ℕ) (claim : ℕ → Option ℤ) (b : BlockValue) (marked : ℕ → Bool) : Type 0 where
  pub whole : b.radius ≡ None
  pub lawful : IsBlock nodes b
  pub marks : (v : ℕ) → marked v ≡ is_some (label b v)
  pub claimed : (v : ℕ) (d : ℤ) → label b v ≡ Some d → claim v ≡ Some d
  pub count : absent marked (nodes + 1) + length b.labels ≡ nodes
