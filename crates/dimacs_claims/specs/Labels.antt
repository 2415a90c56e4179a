-- Labels: claimed distances with predecessors.
use Rattle.std.specs.Prelude.{ℕ, ◌≡◌, ◌≢◌, ◌≤◌, ◌⊎◌, ◌==◌, if◌then◌else◌, List, [], ◌∷◌, ◌++◌, length, slice_get, Option, Some, None, IfSome, ℤ, ◌≤ℤ◌, ◌-◌, ◌^◌, pos, Bool}
use Rattle.std.specs.{List.{All, Contains, list_any}, Ordering.{nat_cmp}}
use Rattle.dimacs_lines.specs.Limits.{most_count, most_nodes, IsNode}
use Rattle.dimacs_records.specs.Ranges.{IsRadius, IsWhole, IsWide}
use Rattle.dimacs_claims.specs.declared.label_list.Label.{Label}
use Rattle.std.specs.FinSet as set

-- the labels of all nodes claimed to be reachable from the source, or of those within a radius
pub record BlockValue : Type 0 where
  pub source : ℕ
  pub radius : Option ℤ
  pub labels : List Label

pub record LabelsValue : Type 0 where
  pub nodes : ℕ
  pub blocks : List BlockValue

-- stands past the end of a list
abbrev pub no_label : Label
no_label = record { dist = pos 0; id = 0; pred = 0 }

-- the number can be an item of an array by node: 64 bits hold it, and it isn't their greatest, which stands for none
abbrev pub IsItem : ℤ → Type 0
IsItem number = IsWhole number × (number ≢ pos (2 ^ 63 - 1))

abbrev pub distance_in : List Label → ℕ → Option ℤ
distance_in [] v = None
distance_in (l ∷ labels) v = if l.id == v then Some l.dist else distance_in labels v

-- the claimed distance of v: 0 at the source, none if v has no label
abbrev pub label : BlockValue → ℕ → Option ℤ
label b v = if b.source == v then Some (pos 0) else distance_in b.labels v

abbrev pub label_in : Option BlockValue → ℕ → Option ℤ
label_in None v = None
label_in (Some b) v = label b v

-- the same in the block with this number, from 0; none past the last block
abbrev pub label_at : List BlockValue → ℕ → ℕ → Option ℤ
label_at blocks k v = label_in (slice_get blocks k) v

abbrev pub with_label : BlockValue → Label → BlockValue
with_label b l = record { source = b.source; radius = b.radius; labels = b.labels ++ l ∷ [] }

-- each item has this property after the items before it
abbrev pub EachAfter : {X : Type 0} → (List X → X → Type 0) → List X → Type 0
EachAfter {X} P xs = (before after : List X) (x : X) → xs ≡ before ++ x ∷ after → P before x

-- a label of a node that is neither the source nor the node of an earlier label
abbrev pub IsFresh : ℕ → List Label → Label → Type 0
IsFresh source before l = (l.id ≢ source) × ((m : Label) → Contains before m → m.id ≢ l.id)

-- the predecessor of the label is the source or the node of an earlier label
abbrev pub HasPred : ℕ → List Label → Label → Type 0
HasPred source before l = (l.pred ≡ source) ⊎ ((m : Label) × Contains before m × (m.id ≡ l.pred))

-- each label has this property
abbrev pub PredsAreEarlier : BlockValue → Type 0
PredsAreEarlier b = EachAfter (HasPred b.source) b.labels

-- the numbers of a label are in their ranges
pub record IsLabel (nodes : ℕ) (l : Label) : Type 0 where
  pub id : IsNode nodes l.id
  pub dist : IsWide l.dist
  pub pred : IsNode nodes l.pred

-- the distance isn't greater than the radius, if there is one
abbrev pub IsWithinRadius : Option ℤ → ℤ → Type 0
IsWithinRadius radius dist = IfSome radius (λ r. dist ≤ℤ r)

-- numbers in their ranges, no label beyond the radius, one label a node, each after that of its predecessor
pub record IsBlock (nodes : ℕ) (b : BlockValue) : Type 0 where
  pub source_within : IsNode nodes b.source
  pub radius_within : IfSome b.radius IsRadius
  pub few : length b.labels ≤ most_count
  pub within : All (IsLabel nodes) b.labels
  pub within_radius : All (λ (l : Label). IsWithinRadius b.radius l.dist) b.labels
  pub fresh : EachAfter (IsFresh b.source) b.labels
  pub preds : PredsAreEarlier b

abbrev pub has_source : ℕ → BlockValue → Bool
has_source source b = b.source == source

-- the source of a block is new
abbrev pub IsNewSource : List BlockValue → BlockValue → Type 0
IsNewSource before b = (other : BlockValue) → Contains before other → other.source ≢ b.source

-- the sources of the blocks, as a set
abbrev pub AreSources : set.FinSet nat_cmp → List BlockValue → Type 0
AreSources sources blocks = (id : ℕ) → set.contains sources id ≡ list_any (has_source id) blocks

-- the labels with one more block
abbrev pub with_block : LabelsValue → BlockValue → LabelsValue
with_block labels b = record { nodes = labels.nodes; blocks = labels.blocks ++ b ∷ [] }

pub record AreLabels (labels : LabelsValue) : Type 0 where
  pub nodes_few : labels.nodes ≤ most_nodes
  pub blocks_few : length labels.blocks ≤ most_count
  pub blocks : All (IsBlock labels.nodes) labels.blocks
  pub sources : EachAfter IsNewSource labels.blocks
