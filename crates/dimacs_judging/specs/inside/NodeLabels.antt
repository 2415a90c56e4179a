-- Inside: a judge's table with the labels of a block.
use Rattle.std.specs.Prelude.{ℕ, ◌≡◌, ◌≢◌, ◌<◌, ◌≤◌, ◌^◌, ◌⊎◌, ◌↔◌, Bool, true, false, List, Contains, count_by, Option, Some, None, IfSome, ℤ, ◌+ℤ◌, ◌-◌, pos, nat_le}
use Rattle.dimacs_network.specs.{declared.node_table.NodeTable.{NodeTable}, Tables.{blank_of, value_of}, Arcs.{arc_at}}
use Rattle.dimacs_network.specs.declared.network.ArcView.{ArcView}
use Rattle.dimacs_records.specs.Ranges.{IsWide}
use Rattle.dimacs_claims.specs.{declared.label_list.Label.{Label}, Labels.{BlockValue, label}}
use Rattle.dimacs_judging.specs.{declared.node_label.NodeLabel.{NodeLabel}, declared.node_labels.Tables.{Tables}}
use Rattle.dimacs_judging.specs.{declared.node_labels.Weights.{Weights}, CertificateTests.{negative_row, relax_row}}
use Rattle.dimacs_judging.specs.{declared.node_labels.Weights.TheVariants.{Untested, NotNegative}, Labels.{HasTightArc}}
use Rattle.dimacs_judging.specs.{Tests.{Clear, ClearBelow}, Distances.{below}}

-- the weights are as tested so far
abbrev pub AreAsTested : List ArcView → Weights → Type 0
AreAsTested arcs Untested = Unit {0}
AreAsTested arcs NotNegative = Clear (negative_row arcs)

-- the entry of a node: its distance if it has a label, and its predecessor, plus 2^31 once a tight arc for the label
-- was found
pub record NodeEntry : Type 0 where
  pub dist : Option ℤ
  pub pred : ℕ

abbrev pub entry_of : {D : Type 0} → (D → Option ℤ) → NodeLabel D → NodeEntry
entry_of value node_label = record { dist = value node_label.dist; pred = node_label.pred }

abbrev pub entries : {D : Type 0} → (D → Option ℤ) → NodeTable (NodeLabel D) → ℕ → NodeEntry
entries value node_labels v = entry_of value (value_of node_labels v)

-- a tight arc for the label was found, or none is needed
abbrev pub is_supported : NodeEntry → Bool
is_supported k = nat_le (2 ^ 31) k.pred

-- a node without an entry has no label
abbrev pub DefaultsToNone : {D : Type 0} → (D → Option ℤ) → NodeTable (NodeLabel D) → Type 0
DefaultsToNone value node_labels = value (blank_of node_labels).dist ≡ None

-- no node has a label
pub record AreUnlabelled {D : Type 0} (value : D → Option ℤ) (node_labels : NodeTable (NodeLabel D)) : Type 0 where
  pub defaults : DefaultsToNone value node_labels
  pub all : (v : ℕ) → (entries value node_labels v).dist ≡ None

pub record AllUnlabelled (tables : Tables) : Type 0 where
  pub bits32 : AreUnlabelled (below (pos (2 ^ 31 - 1))) tables.bits32
  pub bits64 : AreUnlabelled (below (pos (2 ^ 63 - 1))) tables.bits64
  pub bits128 : AreUnlabelled (below (pos (2 ^ 127 - 1))) tables.bits128

-- the distances are in their range
abbrev pub AreWide : (ℕ → NodeEntry) → Type 0
AreWide at = (v : ℕ) → IfSome (at v).dist IsWide

-- only labels with a tight arc count as supported
abbrev pub SupportIsSound : List ArcView → BlockValue → (ℕ → NodeEntry) → Type 0
SupportIsSound arcs b at = (l : Label) → Contains b.labels l → is_supported (at l.id) ≡ true → HasTightArc arcs b l

-- the table has the labels of the block, and nothing else
pub record HasLabels (arcs : List ArcView) (b : BlockValue) (at : ℕ → NodeEntry) : Type 0 where
  pub labels : (v : ℕ) → (at v).dist ≡ label b v
  pub named : (l : Label) → Contains b.labels l → label b l.id ≡ Some l.dist
  pub preds : (l : Label) → Contains b.labels l → is_supported (at l.id) ≡ false → (at l.id).pred ≡ l.pred
  pub source : is_supported (at b.source) ≡ true
  pub sound : SupportIsSound arcs b at

-- the entries are the labels of the block, and nothing else
pub record IsLabelled {D : Type 0} (value : D → Option ℤ) (arcs : List ArcView) (b : BlockValue) (node_labels : NodeTable (NodeLabel D)) : Type 0 where
  pub defaults : DefaultsToNone value node_labels
  pub entries : HasLabels arcs b (entries value node_labels)

-- the arc is tight for the label: it leads there from the predecessor, and its weight is the labels' difference
pub record IsTightFor (b : BlockValue) (a : ArcView) (l : Label) : Type 0 where
  pub base : ℤ
  pub labelled : label b l.pred ≡ Some base
  pub from : a.tail ≡ l.pred
  pub to : a.head ≡ l.id
  pub adds : (base +ℤ a.cost) ≡ l.dist

-- all labels for which this arc is tight count as supported
abbrev pub LabelsSupported : BlockValue → (ℕ → NodeEntry) → ArcView → Type 0
LabelsSupported b at a = (l : Label) → Contains b.labels l → IsTightFor b a l → is_supported (at l.id) ≡ true

-- the same for the first n arcs
abbrev pub AreSupportedBelow : List ArcView → BlockValue → ℕ → (ℕ → NodeEntry) → Type 0
AreSupportedBelow arcs b n at = (k : ℕ) → k < n → LabelsSupported b at (arc_at arcs k)

-- exactly the labels with a tight arc count as supported
abbrev pub AreSupported : List ArcView → BlockValue → (ℕ → NodeEntry) → Type 0
AreSupported arcs b at = (l : Label) → Contains b.labels l → (is_supported (at l.id) ≡ true) ↔ HasTightArc arcs b l

-- how many labels count as supported
abbrev pub supported_count : BlockValue → (ℕ → NodeEntry) → ℕ
supported_count b at = count_by (λ (l : Label). is_supported (at l.id)) b.labels

-- by the table, the arc is tight for the label of its head, and no earlier arc was
pub record IsFirstTight (a : ArcView) (at : ℕ → NodeEntry) : Type 0 where
  pub base : ℤ
  pub tail : (at a.tail).dist ≡ Some base
  pub head : (at a.head).dist ≡ Some (base +ℤ a.cost)
  pub pred : (at a.head).pred ≡ a.tail
  pub unsupported : is_supported (at a.head) ≡ false

-- the same entry, in which a tight arc may have been found
pub record KeepsEntry (old new : NodeEntry) : Type 0 where
  pub dist : new.dist ≡ old.dist
  pub pred : is_supported new ≡ false → new.pred ≡ old.pred

-- the entry of the arc's head has a tight arc if it had one or this arc is tight, and nothing else changes
pub record RelaxesArc (a : ArcView) (old new : ℕ → NodeEntry) : Type 0 where
  pub others : (v : ℕ) → v ≢ a.head → new v ≡ old v
  pub head : KeepsEntry (old a.head) (new a.head)
  pub supported : (is_supported (new a.head) ≡ true) ↔ ((is_supported (old a.head) ≡ true) ⊎ IsFirstTight a old)

-- the first n arcs are relaxed without a failure, and at least `counted` labels are supported
pub record AreRelaxedBelow {D : Type 0} (value : D → Option ℤ) (arcs : List ArcView) (b : BlockValue) (n counted : ℕ) (node_labels : NodeTable (NodeLabel D)) : Type 0 where
  pub labelled : IsLabelled value arcs b node_labels
  pub supported : AreSupportedBelow arcs b n (entries value node_labels)
  pub count : counted ≤ supported_count b (entries value node_labels)
  pub clear : ClearBelow (relax_row arcs b) n
