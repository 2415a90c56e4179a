-- A graph while its text is read.
use Rattle.std.specs.{Prelude.{ℕ, List, ◌∷◌, map, length, Some, ◌≤◌}, List.{All}}
use Rattle.dimacs_records.specs.{declared.records.Record.{Record}, declared.records.Record.TheVariants.{GraphProblem}}
use Rattle.dimacs_records.specs.{declared.order.Context.{Context}, Tests.{plain_context_of}}
use Rattle.dimacs_network.specs.{declared.network.ArcView.{ArcView}, Arcs.{JoinsNodes}}
use Rattle.dimacs_instance.specs.Graph.{graph_arc, HasWeightAlone}
use Rattle.dimacs_lines.specs.Limits.{most_count, most_nodes}

-- the declared numbers, and the arcs so far
pub record GraphBegun : Type 0 where
  pub nodes : ℕ
  pub declared : ℕ
  pub arcs : List ArcView

-- the records so far
abbrev pub graph_begun_records : GraphBegun → List Record
graph_begun_records begun = GraphProblem begun.nodes begun.declared ∷ map graph_arc begun.arcs

-- what the tests need after the problem line and these arcs
abbrev pub plain_context : GraphBegun → Context
plain_context begun = plain_context_of (Some (record { nodes = Some begun.nodes; count = begun.declared })) (length begun.arcs)

-- a lawful state
pub record IsGraphBegun (begun : GraphBegun) : Type 0 where
  pub nodes_few : begun.nodes ≤ most_nodes
  pub arcs_few : begun.declared ≤ most_count
  pub no_more : length begun.arcs ≤ begun.declared
  pub joined : All (JoinsNodes begun.nodes) begun.arcs
  pub weights : All HasWeightAlone begun.arcs
