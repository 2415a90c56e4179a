-- What is read again of the texts of a run.
use Rattle.std.specs.Prelude.{ℕ, List, Option, IfSome}
use Rattle.dimacs_records.specs.{declared.kinds.TextKind.{TextKind}, declared.kinds.TextKind.TheVariants.{Distances}}
use Rattle.dimacs_claims.specs.{Labels.{LabelsValue}, LabelTexts.{SpellsLabels}, DistanceTexts.{SpellsDistances}}
use Rattle.dimacs_quote.specs.{Texts.{IsFirstOf}, declared.texts.TextFile.{TextFile}, declared.texts.Texts.{Texts}}

-- what may come from a file, if its bytes are known, spells the value
abbrev pub IsReadIn : (List ℕ → Option (List ℕ) → Type 0) → List ℕ → (List ℕ → Type 0) → Type 0
IsReadIn reopens file spells = (coming : Option (List ℕ)) × reopens file coming × IfSome coming spells

-- the same for the file of the first text of the run of one of these kinds
abbrev pub IsRead : List TextKind → (List ℕ → Option (List ℕ) → Type 0) → Texts → (List ℕ → Type 0) → Type 0
IsRead kinds reopens texts spells = (text : TextFile) × IsFirstOf kinds texts text × IsReadIn reopens text.file.now spells

-- labels, or distances, which stand for labels
abbrev pub SpellsTested : TextKind → List ℕ → LabelsValue → Type 0
SpellsTested Distances bytes labels = SpellsDistances bytes labels
SpellsTested kind bytes labels = SpellsLabels bytes labels
