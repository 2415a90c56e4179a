-- Maximum flow instances.
use Rattle.std.specs.{Prelude.{ℕ, ◌≡◌, ◌≢◌, ◌≤◌, ◌≤ℤ◌, List, length, pos}, List.{All}}
use Rattle.dimacs_lines.specs.Limits.{most_count, most_nodes, IsNode}
use Rattle.dimacs_records.specs.Ranges.{IsWhole}
use Rattle.dimacs_network.specs.{declared.network.ArcView.{ArcView}, Arcs.{JoinsNodes}}

-- an arc with only a capacity, which isn't negative
abbrev pub HasCapacityAlone : ArcView → Type 0
HasCapacityAlone a = (a.low ≡ pos 0) × (a.cost ≡ pos 0) × (pos 0 ≤ℤ a.cap) × IsWhole a.cap

-- an instance
pub record MaxValue : Type 0 where
  pub nodes : ℕ
  pub source : ℕ
  pub sink : ℕ
  pub arcs : List ArcView

pub record IsMax (m : MaxValue) : Type 0 where
  pub nodes_few : m.nodes ≤ most_nodes
  pub arcs_few : length m.arcs ≤ most_count
  pub source_within : IsNode m.nodes m.source
  pub sink_within : IsNode m.nodes m.sink
  pub ends_apart : m.source ≢ m.sink
  pub joined : All (JoinsNodes m.nodes) m.arcs
  pub capacities : All HasCapacityAlone m.arcs
