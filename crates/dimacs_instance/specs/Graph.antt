-- Graphs for shortest paths, and the texts that spell them.
use Rattle.std.specs.{Prelude.{ℕ, ◌≡◌, ◌≤◌, List, ◌∷◌, map, length, pos, [], codes}, Fmt.{decimal}, List.{All}}
use Rattle.dimacs_lines.specs.{Limits.{most_count, most_nodes}, Lines.{lines}}
use Rattle.dimacs_records.specs.{declared.kinds.TextKind.TheVariants.{Graph}, declared.records.Record.{Record}}
use Rattle.dimacs_records.specs.{declared.records.Record.TheVariants.{GraphProblem, GraphArc}, Printed.{shown}}
use Rattle.dimacs_records.specs.{Canonical.{canonical_text}, Ranges.{IsWhole}, Readings.{LineRecord, records_of}}
use Rattle.dimacs_records.specs.Texts.{SpellsValue}
use Rattle.dimacs_network.specs.{declared.network.ArcView.{ArcView}, Arcs.{NetworkValue, JoinsNodes}}

-- an arc with only a weight
abbrev pub HasWeightAlone : ArcView → Type 0
HasWeightAlone a = (a.low ≡ pos 0) × (a.cap ≡ pos 0) × IsWhole a.cost

-- the counts are in their ranges, and each arc joins nodes of the graph
pub record IsGraph (g : NetworkValue) : Type 0 where
  pub nodes_few : g.nodes ≤ most_nodes
  pub arcs_few : length g.arcs ≤ most_count
  pub joined : All (JoinsNodes g.nodes) g.arcs
  pub weights : All HasWeightAlone g.arcs

abbrev pub graph_arc : ArcView → Record
graph_arc a = GraphArc a.tail a.head a.cost

-- the problem line, then the arcs
abbrev pub graph_records : NetworkValue → List Record
graph_records g = GraphProblem g.nodes (length g.arcs) ∷ map graph_arc g.arcs

abbrev pub GivesGraph : List LineRecord → NetworkValue → Type 0
GivesGraph rs g = (records_of rs ≡ graph_records g) × IsGraph g

-- the text spells this graph
abbrev pub SpellsGraph : List ℕ → NetworkValue → Type 0
SpellsGraph text g = SpellsValue Graph GivesGraph (lines text) g

abbrev pub canonical_graph : NetworkValue → List ℕ
canonical_graph g = canonical_text (graph_records g)

abbrev pub shown_graph : NetworkValue → List ℕ
shown_graph g = shown (codes "sp" ∷ decimal g.nodes ∷ decimal (length g.arcs) ∷ [])
