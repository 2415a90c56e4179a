-- The texts that spell maximum flow instances.
use Rattle.std.specs.{Prelude.{ℕ, ◌≡◌, ◌⊎◌, List, ◌∷◌, map, length, nat_lt, if◌then◌else◌, [], codes}, Fmt.{decimal}}
use Rattle.dimacs_lines.specs.Lines.{lines}
use Rattle.dimacs_records.specs.{declared.kinds.TextKind.TheVariants.{Max}, declared.records.Record.{Record}}
use Rattle.dimacs_records.specs.{declared.records.End.TheVariants.{Source, Sink}, Canonical.{canonical_text}}
use Rattle.dimacs_records.specs.{declared.records.Record.TheVariants.{MaxProblem, MaxNode, MaxArc}, Printed.{shown}}
use Rattle.dimacs_records.specs.{Readings.{LineRecord, records_of}, Texts.{SpellsValue}}
use Rattle.dimacs_network.specs.declared.network.ArcView.{ArcView}
use Rattle.dimacs_instance.specs.MaxFlows.{MaxValue, IsMax}

abbrev pub max_arc : ArcView → Record
max_arc a = MaxArc a.tail a.head a.cap

-- the problem line, two node lines, then the arcs
abbrev pub max_records : MaxValue → Record × Record → List Record
max_records m ends = MaxProblem m.nodes (length m.arcs) ∷ ends.0 ∷ ends.1 ∷ map max_arc m.arcs

-- the node lines may come in either order
abbrev pub GivesMax : List LineRecord → MaxValue → Type 0
GivesMax rs m = ((records_of rs ≡ max_records m (MaxNode m.source Source, MaxNode m.sink Sink))
    ⊎ (records_of rs ≡ max_records m (MaxNode m.sink Sink, MaxNode m.source Source))) × IsMax m

-- the text spells this instance
abbrev pub SpellsMax : List ℕ → MaxValue → Type 0
SpellsMax text m = SpellsValue Max GivesMax (lines text) m

-- the node lines, ordered by ID
abbrev pub nodes_by_id : ℕ → ℕ → Record × Record
nodes_by_id source sink = if nat_lt source sink then (MaxNode source Source, MaxNode sink Sink) else (MaxNode sink Sink, MaxNode source Source)

abbrev pub canonical_max : MaxValue → List ℕ
canonical_max m = canonical_text (max_records m (nodes_by_id m.source m.sink))

abbrev pub shown_max : MaxValue → List ℕ
shown_max m = shown (codes "max" ∷ decimal m.nodes ∷ decimal (length m.arcs) ∷ decimal m.source ∷ decimal m.sink ∷ [])
