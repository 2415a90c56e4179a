-- Minimum cost flow instances.
use Rattle.std.specs.Prelude.{ℕ, suc, ℤ, ◌≢◌, ◌≤◌, ◌≤ℤ◌, if◌then◌else◌, List, length, pos, negsuc, unwrap_or, sum_by}
use Rattle.std.specs.{List.{All}, Ordering.{int_eq, nat_cmp}, FinMap.{FinMap, get, insert, remove, entries, values}}
use Rattle.dimacs_lines.specs.Limits.{most_count, most_nodes, IsNode}
use Rattle.dimacs_network.specs.{declared.network.ArcView.{ArcView}, Arcs.{JoinsNodes}}
use Rattle.dimacs_records.specs.Ranges.{IsWhole}

-- an instance; the map has the supplies other than 0, by node
pub record MinValue : Type 0 where
  pub nodes : ℕ
  pub supplies : FinMap nat_cmp ℤ
  pub arcs : List ArcView

-- the lower bound isn't negative, and the capacity isn't less than it
abbrev pub HasBounds : ArcView → Type 0
HasBounds a = (pos 0 ≤ℤ a.low) × (a.low ≤ℤ a.cap) × IsWhole a.cap × IsWhole a.cost

-- a node with a supply other than 0
abbrev pub IsSupply : ℕ → ℕ × ℤ → Type 0
IsSupply nodes s = IsNode nodes s.0 × (s.1 ≢ pos 0) × IsWhole s.1

pub record IsMin (m : MinValue) : Type 0 where
  pub nodes_few : m.nodes ≤ most_nodes
  pub arcs_few : length m.arcs ≤ most_count
  pub supplied : All (IsSupply m.nodes) (entries m.supplies)
  pub joined : All (JoinsNodes m.nodes) m.arcs
  pub bounds : All HasBounds m.arcs

-- the supply of a node; 0 without an entry in the map
abbrev pub supply_of : MinValue → ℕ → ℤ
supply_of m id = unwrap_or (get m.supplies id) (pos 0)

-- the instance with another supply of this node
abbrev pub with_supply : MinValue → ℕ → ℤ → MinValue
with_supply m id supply = record m { supplies = if int_eq supply (pos 0) then remove m.supplies id else insert m.supplies id supply }

abbrev pub positive_part : ℤ → ℕ
positive_part (pos n) = n
positive_part (negsuc n) = 0

abbrev pub negative_part : ℤ → ℕ
negative_part (pos n) = 0
negative_part (negsuc n) = suc n

-- the sum of the positive supplies
abbrev pub supply_sum : MinValue → ℕ
supply_sum m = sum_by positive_part (values m.supplies)

-- the sum of the negative supplies, without a sign
abbrev pub demand_sum : MinValue → ℕ
demand_sum m = sum_by negative_part (values m.supplies)
