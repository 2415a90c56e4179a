-- The conditions under which labels are distances.
use Rattle.std.specs.Prelude.{ℕ, ◌≡◌, ◌⊎◌, List, All, Contains, Option, Some, None, ℤ, pos, ◌+ℤ◌, ◌≤ℤ◌}
use Rattle.dimacs_network.specs.declared.network.ArcView.{ArcView}
use Rattle.dimacs_claims.specs.{declared.label_list.Label.{Label}, Labels.{BlockValue, IsWithinRadius, label}}
use Rattle.dimacs_judging.specs.Walks.{IsDistance}

-- an arc from the label's predecessor to its node, with the weight from distance `base` to the label's
pub record HasArcOfWeight (g : List ArcView) (l : Label) (base : ℤ) : Type 0 where
  pub arc : ArcView
  pub present : Contains g arc
  pub from : arc.tail ≡ l.pred
  pub to : arc.head ≡ l.id
  pub adds : (base +ℤ arc.cost) ≡ l.dist

-- the label has a tight arc from its predecessor
abbrev pub HasTightArc : List ArcView → BlockValue → Label → Type 0
HasTightArc g b l = (base : ℤ) × (label b l.pred ≡ Some base) × HasArcOfWeight g l base

-- a walk of this length to v respects the labels: v's is no greater, or v has none and the length is beyond the radius
abbrev pub IsReached : BlockValue → ℕ → ℤ → Type 0
IsReached b v length = ((e : ℤ) × (label b v ≡ Some e) × (e ≤ℤ length)) ⊎ ((label b v ≡ None) × (¬ IsWithinRadius b.radius length))

-- if the tail of the arc has a label, the head is reached by it plus the weight
abbrev pub IsRelaxed : BlockValue → ArcView → Type 0
IsRelaxed b a = (d : ℤ) → label b a.tail ≡ Some d → IsReached b a.head (d +ℤ a.cost)

-- if there is a radius, no weight is negative
abbrev pub HasWeights : Option ℤ → List ArcView → Type 0
HasWeights None g = Unit {0}
HasWeights (Some r) g = All (λ (a : ArcView). pos 0 ≤ℤ a.cost) g

-- no label of the block is beyond its radius, not even the source's
pub record StaysNear (b : BlockValue) : Type 0 where
  pub source : IsWithinRadius b.radius (pos 0)
  pub labels : All (λ (l : Label). IsWithinRadius b.radius l.dist) b.labels

pub record LabelsOk (g : List ArcView) (b : BlockValue) : Type 0 where
  pub weights : HasWeights b.radius g
  pub tight : All (HasTightArc g b) b.labels
  pub relaxed : All (IsRelaxed b) g

-- in every block each label is the distance from the source, and each node without a label is unreachable, or beyond
-- the block's radius
abbrev pub AreDistances : List ArcView → List BlockValue → Type 0
AreDistances g blocks = All (λ b. (v : ℕ) → IsDistance g b.source v (label b v) b.radius) blocks
