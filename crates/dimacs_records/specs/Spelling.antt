-- Which lines spell which records.
use Rattle.std.specs.Prelude.{ℕ, ◌≡◌, ◌==◌, ◌⊎◌, Bool, true, false, List, [], ◌∷◌, map, Option, Some, None, ℤ, pos, codes}
use Rattle.std.specs.List.{Contains}
use Rattle.dimacs_lines.specs.{Fields.{Run, fields_of}, Number.{Spells, IsWithin}}
use Rattle.dimacs_records.specs.{declared.kinds.TextKind.{TextKind}, declared.records.End.{End}}
use Rattle.dimacs_records.specs.declared.kinds.TextKind.TheVariants.{Max, Min, Graph, Queries, Solution, Cut, Potentials, Labels, Distances}
use Rattle.dimacs_records.specs.{declared.records.End.TheVariants.{Source, Sink}, declared.records.Record.{Record}}
use Rattle.dimacs_records.specs.declared.records.QueryKind.{QueryKind}
use Rattle.dimacs_records.specs.declared.records.QueryKind.TheVariants.{Sources, Pairs}
use Rattle.dimacs_records.specs.declared.records.Record.TheVariants.{MaxProblem, MaxNode, MaxArc, MinProblem, MinNode, MinArc, GraphProblem, GraphArc, QueriesProblem, SourceQuery, PairQuery, SolutionValue, SolutionEntry, CutProblem, CutNode, PotentialsProblem, PotentialsNode, LabelsProblem, LabelsBlock, LabelsNode, DistancesProblem, DistancesBlock, DistancesNode}
use Rattle.dimacs_records.specs.Forms.{FieldType, Word, Either, Number, Form, forms}

-- the content of a field: a word or a number
pub data Part : Type 0 where
  Text : List ℕ → Part
  Amount : ℤ → Part

abbrev pub end_word : End → List ℕ
end_word Source = codes "s"
end_word Sink = codes "t"

abbrev pub query_word : QueryKind → List ℕ
query_word Sources = codes "ss"
query_word Pairs = codes "p2p"

-- the RADIUS of a block, if it has one
abbrev pub radius_parts : Option ℤ → List Part
radius_parts None = []
radius_parts (Some radius) = Amount radius ∷ []

-- a record as a line: its kind of text, its letter, and the contents of the fields after the letter
pub record RecordLine : Type 0 where
  pub kind : TextKind
  pub letter : List ℕ
  pub parts : List Part

abbrev pub line : TextKind → List ℕ → List Part → RecordLine
line kind letter parts = record { kind = kind; letter = letter; parts = parts }

abbrev pub record_line : Record → RecordLine
record_line (MaxProblem nodes arcs) = line Max (codes "p") (Text (codes "max") ∷ Amount (pos nodes) ∷ Amount (pos arcs) ∷ [])
record_line (MaxNode id end) = line Max (codes "n") (Amount (pos id) ∷ Text (end_word end) ∷ [])
record_line (MaxArc tail head cap) = line Max (codes "a") (Amount (pos tail) ∷ Amount (pos head) ∷ Amount cap ∷ [])
record_line (MinProblem nodes arcs) = line Min (codes "p") (Text (codes "min") ∷ Amount (pos nodes) ∷ Amount (pos arcs) ∷ [])
record_line (MinNode id supply) = line Min (codes "n") (Amount (pos id) ∷ Amount supply ∷ [])
record_line (MinArc tail head low cap cost) = line Min (codes "a") (Amount (pos tail) ∷ Amount (pos head) ∷ Amount low ∷ Amount cap ∷ Amount cost ∷ [])
record_line (GraphProblem nodes arcs) = line Graph (codes "p") (Text (codes "sp") ∷ Amount (pos nodes) ∷ Amount (pos arcs) ∷ [])
record_line (GraphArc tail head weight) = line Graph (codes "a") (Amount (pos tail) ∷ Amount (pos head) ∷ Amount weight ∷ [])
record_line (QueriesProblem asks count) = line Queries (codes "p") (Text (codes "aux") ∷ Text (codes "sp") ∷ Text (query_word asks) ∷ Amount (pos count) ∷ [])
record_line (SourceQuery id) = line Queries (codes "s") (Amount (pos id) ∷ [])
record_line (PairQuery from to) = line Queries (codes "q") (Amount (pos from) ∷ Amount (pos to) ∷ [])
record_line (SolutionValue value) = line Solution (codes "s") (Amount value ∷ [])
record_line (SolutionEntry tail head flow) = line Solution (codes "f") (Amount (pos tail) ∷ Amount (pos head) ∷ Amount flow ∷ [])
record_line (CutProblem nodes count) = line Cut (codes "p") (Text (codes "cut") ∷ Amount (pos nodes) ∷ Amount (pos count) ∷ [])
record_line (CutNode id) = line Cut (codes "u") (Amount (pos id) ∷ [])
record_line (PotentialsProblem nodes count) = line Potentials (codes "p") (Text (codes "pot") ∷ Amount (pos nodes) ∷ Amount (pos count) ∷ [])
record_line (PotentialsNode id value) = line Potentials (codes "y") (Amount (pos id) ∷ Amount value ∷ [])
record_line (LabelsProblem nodes blocks) = line Labels (codes "p") (Text (codes "dist") ∷ Amount (pos nodes) ∷ Amount (pos blocks) ∷ [])
record_line (LabelsBlock source count radius) = line Labels (codes "t") (Amount (pos source) ∷ Amount (pos count) ∷ radius_parts radius)
record_line (LabelsNode id dist pred) = line Labels (codes "d") (Amount (pos id) ∷ Amount dist ∷ Amount (pos pred) ∷ [])
record_line (DistancesProblem nodes blocks) = line Distances (codes "p") (Text (codes "distances") ∷ Amount (pos nodes) ∷ Amount (pos blocks) ∷ [])
record_line (DistancesBlock source count) = line Distances (codes "t") (Amount (pos source) ∷ Amount (pos count) ∷ [])
record_line (DistancesNode id dist) = line Distances (codes "d") (Amount (pos id) ∷ Amount dist ∷ [])

abbrev pub kind_of : Record → TextKind
kind_of r = (record_line r).kind

abbrev pub letter_of : Record → List ℕ
letter_of r = (record_line r).letter

abbrev pub parts_of : Record → List Part
parts_of r = (record_line r).parts

-- a field of this type with this text has this content
abbrev pub SpellsField : FieldType → List ℕ → Part → Type 0
SpellsField (Word w) text (Text word) = (text ≡ w) × (word ≡ w)
SpellsField (Either v w) text (Text word) = ((text ≡ v) ⊎ (text ≡ w)) × (word ≡ text)
SpellsField (Number low high) text (Amount n) = Spells text n × IsWithin low high n
SpellsField type text part = ⊥

-- one by one, with none left over
abbrev pub SpellFields : List FieldType → List (List ℕ) → List Part → Type 0
SpellFields [] [] [] = Unit {0}
SpellFields (type ∷ types) (text ∷ texts) (part ∷ parts) = SpellsField type text part × SpellFields types texts parts
SpellFields types texts parts = ⊥

-- the fields have a form of the kind, and their contents are the record's
pub record SpellsRecord (kind : TextKind) (texts : List (List ℕ)) (r : Record) : Type 0 where
  pub form : Form
  pub after : List (List ℕ)
  pub of_kind : Contains (forms kind) form
  pub for_kind : kind_of r ≡ kind
  pub letter : letter_of r ≡ form.letter
  pub begins : texts ≡ form.letter ∷ after
  pub spells : SpellFields form.types after (parts_of r)

-- the texts of a line's fields
abbrev pub texts_in : List ℕ → List (List ℕ)
texts_in line = map (λ (run : Run). run.text) (fields_of line)

-- the first field begins with `c`
abbrev pub is_comment : List ℕ → Bool
is_comment [] = false
is_comment (b ∷ bs) = b == 99

-- a line without fields, or a comment
abbrev pub is_skip : List (List ℕ) → Bool
is_skip [] = true
is_skip (first ∷ after) = is_comment first
