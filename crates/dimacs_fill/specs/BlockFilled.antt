-- The block of a source in the arrays of a caller.
use Rattle.std.specs.Prelude.{ℕ, ℤ, ◌≡◌, ◌<◌, ◌-◌, ◌^◌, ◌⊎◌, ◌==◌, if◌then◌else◌, List, [], ◌∷◌, All, Contains, get_or, length, map, Option, None, Some, IfSome, pos, Result, Ok, Err}
use Rattle.std.specs.List.{range_with_len}
use Rattle.dimacs_records.specs.declared.reasons.Reason.TheVariants.{BlockMissing, NumberRange}
use Rattle.dimacs_claims.specs.{declared.label_list.Label.{Label}, DistanceTexts.{SpellsDistances}}
use Rattle.dimacs_claims.specs.{Labels.{BlockValue, IsItem, LabelsValue, label, no_label}, LabelTexts.{SpellsLabels}}
use Rattle.dimacs_fill.specs.{declared.error.FillError.{FillError}, declared.error.FillError.TheVariants.{Unread, Node}}
use Rattle.dimacs_fill.specs.{declared.labels.LabelSizes.{LabelSizes}, Filling.{Array, IsFilled, IsKept, ReadsFitting}}
use Rattle.dimacs_records.specs.declared.kinds.TextKind.TheVariants as kinds

-- the item for a number, or for none
abbrev pub item_of : Option ℤ → ℤ
item_of None = pos (2 ^ 63 - 1)
item_of (Some number) = number

-- the distance of each node, by ID
abbrev pub distances_of : ℕ → BlockValue → List ℤ
distances_of nodes b = map (λ v. item_of (label b v)) (range_with_len 1 nodes)

-- the predecessor of a node; 0 if it has no label
abbrev pub pred_in : List Label → ℕ → ℕ
pred_in [] v = 0
pred_in (l ∷ labels) v = if l.id == v then l.pred else pred_in labels v

-- the predecessor of each node, by ID
abbrev pub preds_of : ℕ → BlockValue → List ℕ
preds_of nodes b = map (pred_in b.labels) (range_with_len 1 nodes)

-- the labels have this block
abbrev pub HasBlock : LabelsValue → ℕ → BlockValue → Type 0
HasBlock labels source b = Contains labels.blocks b × (b.source ≡ source)

-- the radius and the distances of a block can be items
abbrev pub HasItems : BlockValue → Type 0
HasItems b = IfSome b.radius IsItem × All (λ (l : Label). IsItem l.dist) b.labels

-- the first label whose distance can't be an item is that of this node
pub record IsFirstPast (labels : List Label) (id : ℕ) : Type 0 where
  pub place : ℕ
  pub within : place < length labels
  pub node : (get_or labels place no_label).id ≡ id
  pub past : ¬ IsItem (get_or labels place no_label).dist
  pub earlier : (k : ℕ) → k < place → IsItem (get_or labels k no_label).dist

-- the radius of the block can't be an item, which its source is refused for, or the distance of a label can't
abbrev pub IsPast : BlockValue → ℕ → Type 0
IsPast b id = ((id ≡ b.source) × ¬ IfSome b.radius IsItem) ⊎ (IfSome b.radius IsItem × IsFirstPast b.labels id)

-- the source has no block, or a number of its block can't be an item
abbrev pub RefusesBlock : LabelsValue → ℕ → FillError → Type 0
RefusesBlock labels source (Node id reason) =
    ((reason ≡ BlockMissing) × (id ≡ source) × ((b : BlockValue) → ¬ HasBlock labels source b))
    ⊎ ((reason ≡ NumberRange) × ((b : BlockValue) × HasBlock labels source b × IsPast b id))
RefusesBlock labels source (Unread error) = ⊥

-- the distances of the source's block, or why there are none
abbrev pub FillsDistances : Array ℤ → ℕ → LabelsValue → Result ℕ FillError → Type 0
FillsDistances distances source labels (Ok nodes) =
    (nodes ≡ labels.nodes) × ((b : BlockValue) × HasBlock labels source b × HasItems b × IsFilled (distances_of labels.nodes b) distances)
FillsDistances distances source labels (Err error) = RefusesBlock labels source error

abbrev pub ReadsDistancesInto : List ℕ → ℕ → Array ℤ → Result ℕ FillError → Type 0
ReadsDistancesInto text source distances =
    ReadsFitting kinds.Distances text (SpellsDistances text) (FillsDistances distances source) (IsKept distances)

-- the radius, the distances and the predecessors of the source's block, or why there are none
abbrev pub FillsLabels : Array ℤ → Array ℕ → ℕ → LabelsValue → Result LabelSizes FillError → Type 0
FillsLabels distances preds source labels (Ok sizes) =
    (sizes.nodes ≡ labels.nodes) × ((b : BlockValue) × HasBlock labels source b × HasItems b × (sizes.radius ≡ item_of b.radius)
    × IsFilled (distances_of labels.nodes b) distances × IsFilled (preds_of labels.nodes b) preds)
FillsLabels distances preds source labels (Err error) = RefusesBlock labels source error

abbrev pub ReadsLabelsInto : List ℕ → ℕ → Array ℤ → Array ℕ → Result LabelSizes FillError → Type 0
ReadsLabelsInto text source distances preds =
    ReadsFitting kinds.Labels text (SpellsLabels text) (FillsLabels distances preds source) (IsKept distances × IsKept preds)
