-- A maximum flow instance while its text is read.
use Rattle.std.specs.{Prelude.{ℕ, List, [], ◌∷◌, ◌++◌, map, length, Some, nat_lt, ◌≡◌, ◌≢◌, ◌≤◌}, List.{list_any, All}}
use Rattle.dimacs_records.specs.{declared.records.Record.{Record}, declared.order.Context.{Context}}
use Rattle.dimacs_records.specs.declared.records.Record.TheVariants.{MaxProblem, MaxNode, MaxArc}
use Rattle.dimacs_records.specs.{Conditions.{lacks_end}, Earlier.{is_end_node, names}, Tests.{plain_context_of}}
use Rattle.dimacs_network.specs.{declared.network.ArcView.{ArcView}, Arcs.{JoinsNodes}}
use Rattle.dimacs_instance.specs.{declared.max.ends.EndLine.{EndLine}, declared.max.ends.EndLines.{EndLines}}
use Rattle.dimacs_instance.specs.{MaxTexts.{max_arc}, declared.max.ends.EndLines.TheVariants.{Neither, One, Both}}
use Rattle.dimacs_instance.specs.MaxFlows.{HasCapacityAlone}
use Rattle.dimacs_lines.specs.Limits.{most_count, most_nodes, IsNode}

-- the declared numbers, and the node lines and arcs so far
pub record MaxBegun : Type 0 where
  pub nodes : ℕ
  pub declared : ℕ
  pub ends : EndLines
  pub arcs : List ArcView

abbrev pub max_node : EndLine → Record
max_node e = MaxNode e.node e.end

-- the node lines, in their order
abbrev pub end_records : EndLines → List Record
end_records Neither = []
end_records (One first) = max_node first ∷ []
end_records (Both first second) = max_node first ∷ max_node second ∷ []

abbrev pub max_begun_records : MaxBegun → List Record
max_begun_records begun = MaxProblem begun.nodes begun.declared ∷ (end_records begun.ends ++ map max_arc begun.arcs)

-- the declared numbers, the node lines so far, and how many arcs came
pub record MaxCount : Type 0 where
  pub nodes : ℕ
  pub declared : ℕ
  pub ends : EndLines
  pub arcs : ℕ

abbrev pub count_of : MaxBegun → MaxCount
count_of begun = record { nodes = begun.nodes; declared = begun.declared; ends = begun.ends; arcs = length begun.arcs }

-- what the tests need if source and sink don't matter
abbrev pub plain_context : MaxCount → Context
plain_context counted = plain_context_of (Some (record { nodes = Some counted.nodes; count = counted.declared })) counted.arcs

-- the same at the end
abbrev pub end_context : MaxCount → Context
end_context counted = record (plain_context counted) { lacks_end = lacks_end (end_records counted.ends) }

-- the same for one more record
abbrev pub context : MaxCount → Record → Context
context counted (MaxNode id end) = record (plain_context counted) {
  misplaced = nat_lt 0 counted.arcs;
  named = list_any (names id) (end_records counted.ends);
  end_named = list_any (is_end_node end) (end_records counted.ends);
}
context counted (MaxArc tail head cap) = end_context counted
context counted r = plain_context counted

-- two node lines name different nodes and different ends
abbrev pub EndsAreDistinct : EndLines → Type 0
EndsAreDistinct (Both first second) = (first.node ≢ second.node) × (first.end ≢ second.end)
EndsAreDistinct ends = Unit {0}

-- the node lines name nodes of the instance
abbrev pub AreNodes : ℕ → EndLines → Type 0
AreNodes nodes Neither = Unit {0}
AreNodes nodes (One first) = IsNode nodes first.node
AreNodes nodes (Both first second) = IsNode nodes first.node × IsNode nodes second.node

-- a lawful state
pub record IsMaxBegun (begun : MaxBegun) : Type 0 where
  pub nodes_few : begun.nodes ≤ most_nodes
  pub arcs_few : begun.declared ≤ most_count
  pub no_more : length begun.arcs ≤ begun.declared
  pub ends_within : AreNodes begun.nodes begun.ends
  pub ends_apart : EndsAreDistinct begun.ends
  pub joined : All (JoinsNodes begun.nodes) begun.arcs
  pub capacities : All HasCapacityAlone begun.arcs

-- these records may lead to this state; their arcs are counted
pub record IsMaxCountedBy (counted : MaxCount) (rs : List Record) : Type 0 where
  pub begun : MaxBegun
  pub is_begun : IsMaxBegun begun
  pub records : rs ≡ max_begun_records begun
  pub counts : counted ≡ count_of begun
