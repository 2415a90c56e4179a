-- The texts of distances: labels whose predecessors are their sources, without PRED and RADIUS.
use Rattle.std.specs.{Prelude.{ℕ, ◌≡◌, List, ◌∷◌, None, map, length, [], codes}, Fmt.{decimal}, List.{All}}
use Rattle.dimacs_lines.specs.Lines.{lines}
use Rattle.dimacs_records.specs.{declared.kinds.TextKind.TheVariants.{Distances}, declared.records.Record.{Record}}
use Rattle.dimacs_records.specs.declared.records.Record.TheVariants.{LabelsProblem, LabelsBlock, LabelsNode, DistancesProblem, DistancesBlock, DistancesNode}
use Rattle.dimacs_records.specs.{Canonical.{canonical_text}, Printed.{shown}, Readings.{LineRecord, records_of}}
use Rattle.dimacs_records.specs.Texts.{SpellsValue}
use Rattle.dimacs_claims.specs.{declared.label_list.Label.{Label}, Labels.{BlockValue, LabelsValue, AreLabels}}
use Rattle.dimacs_claims.specs.LabelTexts.{label_records}

-- the block has no radius, and the source is the predecessor of each label
pub record IsBare (b : BlockValue) : Type 0 where
  pub whole : b.radius ≡ None
  pub preds : All (λ (l : Label). l.pred ≡ b.source) b.labels

abbrev pub AreBare : LabelsValue → Type 0
AreBare d = All IsBare d.blocks

-- a line of labels as a line of distances
abbrev pub bare : Record → Record
bare (LabelsProblem nodes blocks) = DistancesProblem nodes blocks
bare (LabelsBlock source count radius) = DistancesBlock source count
bare (LabelsNode id dist pred) = DistancesNode id dist
bare r = r

-- the problem line, then the blocks
abbrev pub distance_records : LabelsValue → List Record
distance_records d = map bare (label_records d)

abbrev pub GivesDistances : List LineRecord → LabelsValue → Type 0
GivesDistances rs d = (records_of rs ≡ distance_records d) × AreLabels d × AreBare d

-- the text spells these distances
abbrev pub SpellsDistances : List ℕ → LabelsValue → Type 0
SpellsDistances text d = SpellsValue Distances GivesDistances (lines text) d

abbrev pub canonical_distances : LabelsValue → List ℕ
canonical_distances d = canonical_text (distance_records d)

abbrev pub shown_distances : LabelsValue → List ℕ
shown_distances d = shown (codes "distances" ∷ decimal d.nodes ∷ decimal (length d.blocks) ∷ [])
