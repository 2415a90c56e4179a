-- The texts that spell labels.
use Rattle.std.specs.{Prelude.{ℕ, ◌≡◌, ◌≤◌, List, ◌∷◌, map, length, [], codes}, Fmt.{decimal}, List.{flat_map}}
use Rattle.dimacs_lines.specs.{Lines.{lines}, Limits.{most_lines}}
use Rattle.dimacs_records.specs.{declared.records.Record.{Record}, Canonical.{canonical_text}, Printed.{shown}}
use Rattle.dimacs_records.specs.declared.records.Record.TheVariants.{LabelsProblem, LabelsBlock, LabelsNode}
use Rattle.dimacs_records.specs.{Readings.{LineRecord, records_of}, Texts.{SpellsValue}}
use Rattle.dimacs_claims.specs.{declared.label_list.Label.{Label}, Labels.{BlockValue, LabelsValue, AreLabels}}
use Rattle.dimacs_records.specs.declared.kinds.TextKind.TheVariants as kinds

abbrev pub label_line : Label → Record
label_line l = LabelsNode l.id l.dist l.pred

-- the line of the block, then its labels
abbrev pub block_lines : BlockValue → List Record
block_lines b = LabelsBlock b.source (length b.labels) b.radius ∷ map label_line b.labels

-- the problem line, then the blocks
abbrev pub label_records : LabelsValue → List Record
label_records labels = LabelsProblem labels.nodes (length labels.blocks) ∷ flat_map block_lines labels.blocks

abbrev pub GivesLabels : List LineRecord → LabelsValue → Type 0
GivesLabels rs labels = (records_of rs ≡ label_records labels) × AreLabels labels

-- the text spells these labels
abbrev pub SpellsLabels : List ℕ → LabelsValue → Type 0
SpellsLabels text labels = SpellsValue kinds.Labels GivesLabels (lines text) labels

abbrev pub canonical_labels : LabelsValue → List ℕ
canonical_labels labels = canonical_text (label_records labels)

abbrev pub shown_labels : LabelsValue → List ℕ
shown_labels l = shown (codes "dist" ∷ decimal l.nodes ∷ decimal (length l.blocks) ∷ [])

-- the canonical text has no more lines than a text may have
abbrev pub FitText : LabelsValue → Type 0
FitText labels = length (label_records labels) ≤ most_lines
