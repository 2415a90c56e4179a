-- Inside: what a search over tight arcs has reached.
use Rattle.std.specs.Prelude.{ℕ, zero, suc, ◌≡◌, ◌≤◌, Bool, true, List, All, length, get_or, Option, IsSome, ℤ}
use Rattle.dimacs_lines.specs.Limits.{IsNode}
use Rattle.dimacs_network.specs.declared.network.ArcView.{ArcView}
use Rattle.dimacs_claims.specs.Labels.{BlockValue, no_label}
use Rattle.dimacs_judging.specs.Labels.{HasTightArc}
use Rattle.dimacs_decide.specs.{Distances.{IsTight, IsTightlyReached}, inside.MarkedBlocks.{IsMarkedBlock}}

-- the node at a place of a block: first the source, then the nodes of the labels
abbrev pub node_at : BlockValue → ℕ → ℕ
node_at b zero = b.source
node_at b (suc k) = (get_or b.labels k no_label).id

-- the labels of nodes reached over tight arcs; each has the claim of its node
pub record IsTightTree (nodes : ℕ) (arcs : List ArcView) (claim : ℕ → Option ℤ) (b : BlockValue) (reached : ℕ → Bool) : Type 0 where
  pub block : IsMarkedBlock nodes claim b reached
  pub tight_arcs : All (HasTightArc arcs b) b.labels
  pub walks : (v : ℕ) → reached v ≡ true → IsTightlyReached arcs b.source claim v

-- each tight arc from v leads to a node that was reached
abbrev pub IsFollowed : List ArcView → (ℕ → Option ℤ) → (ℕ → Bool) → ℕ → Type 0
IsFollowed arcs claim reached v = All (λ a. a.tail ≡ v → IsTight claim a → reached a.head ≡ true) arcs

-- more nodes may be reached, and earlier ones keep their places
pub record TreeGrows (b : BlockValue) (reached : ℕ → Bool) (b' : BlockValue) (reached' : ℕ → Bool) : Type 0 where
  pub kept : (v : ℕ) → reached v ≡ true → reached' v ≡ true
  pub places : (j : ℕ) → j ≤ length b.labels → node_at b' j ≡ node_at b j
  pub longer : length b.labels ≤ length b'.labels

-- all nodes that paths of tight arcs lead to
pub record IsWholeTightTree (nodes : ℕ) (arcs : List ArcView) (claim : ℕ → Option ℤ) (b : BlockValue) (reached : ℕ → Bool) : Type 0 where
  pub tree : IsTightTree nodes arcs claim b reached
  pub closed : (v : ℕ) → IsTightlyReached arcs b.source claim v → reached v ≡ true

-- each node with a claim was reached
abbrev pub ReachesAll : ℕ → (ℕ → Option ℤ) → (ℕ → Bool) → Type 0
ReachesAll nodes claim reached = (v : ℕ) → IsNode nodes v → IsSome (claim v) → reached v ≡ true
