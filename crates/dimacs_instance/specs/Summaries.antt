-- Summaries of the instances that texts spell.
use Rattle.std.specs.Prelude.{ℕ, ◌≡◌, List, [], ◌∷◌, codes, length, pos, Result, Ok, Err, Some}
use Rattle.std.specs.Fmt.{decimal, signed_decimal}
use Rattle.dimacs_records.specs.{declared.faults.ReadError.{ReadError}, declared.reasons.Reason.{Reason}, Texts.{Reads}}
use Rattle.dimacs_records.specs.{Printed.{shown}, declared.order.Context.{Context}, declared.records.Record.{Record}}
use Rattle.dimacs_records.specs.{Readings.{LineRecord}, Tests.{plain_context_of}}
use Rattle.dimacs_network.specs.Arcs.{NetworkValue}
use Rattle.dimacs_instance.specs.{MaxFlows.{MaxValue}, declared.summaries.max.MaxSummary.{MaxSummary}}
use Rattle.dimacs_instance.specs.MinFlows.{MinValue, demand_sum, supply_sum}
use Rattle.dimacs_instance.specs.declared.summaries.min.MinNodes.{MinNodes}
use Rattle.dimacs_instance.specs.declared.summaries.min.MinSummary.{MinSummary}
use Rattle.dimacs_instance.specs.declared.summaries.graph.GraphSummary.{GraphSummary}
use Rattle.dimacs_instance.specs.GraphReading.{GraphBegun, graph_begun_records, IsGraphBegun}
use Rattle.dimacs_instance.specs.declared.summaries.graph.GraphCount.{GraphCount}

-- the summary of the value that the text spells, or why it spells none
abbrev pub ReadsSummary : {T V : Type 0} → (T → V → Type 0) → (V → Type 0) → (ℕ → ℕ → Reason → Type 0) → Result T ReadError → Type 0
ReadsSummary {T} {V} sums_up spells fault (Ok summary) = (value : V) × sums_up summary value × Reads spells fault (Ok value)
ReadsSummary sums_up spells fault (Err error) = Reads spells fault (Err error)

-- the numbers of nodes and arcs of the graph
abbrev pub graph_summary : NetworkValue → GraphSummary
graph_summary g = record { nodes = g.nodes; arcs = length g.arcs }

abbrev pub SumsUpGraph : GraphSummary → NetworkValue → Type 0
SumsUpGraph s g = s ≡ graph_summary g

abbrev pub graph_summary_line : GraphSummary → List ℕ
graph_summary_line s = shown (codes "sp" ∷ decimal s.nodes ∷ decimal s.arcs ∷ [])

-- the numbers of nodes and arcs of the instance, its source and its sink
abbrev pub max_summary : MaxValue → MaxSummary
max_summary m = record { nodes = m.nodes; arcs = length m.arcs; source = m.source; sink = m.sink }

abbrev pub SumsUpMax : MaxSummary → MaxValue → Type 0
SumsUpMax s m = s ≡ max_summary m

abbrev pub max_summary_line : MaxSummary → List ℕ
max_summary_line s = shown (codes "max" ∷ decimal s.nodes ∷ decimal s.arcs ∷ decimal s.source ∷ decimal s.sink ∷ [])

-- the numbers of nodes and arcs of the instance, and the sums of its supplies
abbrev pub min_summary : MinValue → MinSummary
min_summary m = record { nodes = m.nodes; arcs = length m.arcs; supplied = pos (supply_sum m); demanded = pos (demand_sum m) }

abbrev pub SumsUpMin : MinSummary → MinValue → Type 0
SumsUpMin s m = s ≡ min_summary m

-- the nodes of the instance with their supplies, and how many arcs it has
abbrev pub min_nodes : MinValue → MinNodes
min_nodes m = record { arcs = length m.arcs; without_arcs = record { nodes = m.nodes; supplies = m.supplies; arcs = [] } }

abbrev pub HasNodes : MinNodes → MinValue → Type 0
HasNodes n m = n ≡ min_nodes m

abbrev pub min_summary_line : MinSummary → List ℕ
min_summary_line s = shown (codes "min" ∷ decimal s.nodes ∷ decimal s.arcs ∷ signed_decimal s.supplied ∷ signed_decimal s.demanded ∷ [])

-- the records give a value with this summary
abbrev pub GivesSummary : {T V : Type 0} → (List LineRecord → V → Type 0) → (T → V → Type 0) → List LineRecord → T → Type 0
GivesSummary {T} {V} gives sums_up rs summary = (value : V) × gives rs value × sums_up summary value

-- these records may lead to this state; their arcs are counted
pub record IsGraphCountedBy (c : GraphCount) (rs : List Record) : Type 0 where
  pub begun : GraphBegun
  pub is_begun : IsGraphBegun begun
  pub records : rs ≡ graph_begun_records begun
  pub nodes : c.nodes ≡ begun.nodes
  pub declared : c.declared ≡ begun.declared
  pub arcs : c.arcs ≡ length begun.arcs

-- what the tests need after the problem line and these arcs
abbrev pub counted_lines : GraphCount → Context
counted_lines c = plain_context_of (Some (record { nodes = Some c.nodes; count = c.declared })) c.arcs
