-- A minimum cost flow instance while its text is read.
use Rattle.std.specs.{Prelude.{ℕ, ℤ, ◌≡◌, List, length, Bool, Some, is_some, nat_lt, ◌≤◌}, Ordering.{nat_cmp}}
use Rattle.std.specs.{FinMap.{FinMap, from_entries, get, entries}, List.{All}}
use Rattle.dimacs_records.specs.{declared.records.Record.{Record}, NodeValues.{NameNodes}, Tests.{plain_context_of}}
use Rattle.dimacs_records.specs.{declared.order.Context.{Context}, declared.records.Record.TheVariants.{MinNode}}
use Rattle.dimacs_records.specs.Ranges.{IsWhole}
use Rattle.dimacs_network.specs.{declared.network.ArcView.{ArcView}, Arcs.{JoinsNodes}}
use Rattle.dimacs_instance.specs.{MinTexts.{min_records}, MinFlows.{HasBounds}}
use Rattle.dimacs_lines.specs.Limits.{most_count, most_nodes, IsNode}

-- the declared numbers, the supplies of the named nodes, and the arcs so far
pub record MinBegun : Type 0 where
  pub nodes : ℕ
  pub declared : ℕ
  pub supplies : FinMap nat_cmp ℤ
  pub arcs : List ArcView

-- these records may lead to this state
pub record IsMinBegunBy (begun : MinBegun) (rs : List Record) : Type 0 where
  pub named : List (ℕ × ℤ)
  pub name_nodes : NameNodes begun.nodes named
  pub supplies : begun.supplies ≡ from_entries named
  pub records : rs ≡ min_records begun.nodes begun.declared named begun.arcs

-- the declared numbers, the supplies of the named nodes, and how many arcs came
pub record MinCount : Type 0 where
  pub nodes : ℕ
  pub declared : ℕ
  pub supplies : FinMap nat_cmp ℤ
  pub arcs : ℕ

abbrev pub count_of : MinBegun → MinCount
count_of begun = record { nodes = begun.nodes; declared = begun.declared; supplies = begun.supplies; arcs = length begun.arcs }

abbrev pub has_line : MinCount → ℕ → Bool
has_line counted id = is_some (get counted.supplies id)

-- what the tests need after the problem line, these node lines and arcs
abbrev pub plain_context : MinCount → Context
plain_context counted = plain_context_of (Some (record { nodes = Some counted.nodes; count = counted.declared })) counted.arcs

-- the same for one more record
abbrev pub context : MinCount → Record → Context
context counted (MinNode id supply) = record (plain_context counted) { misplaced = nat_lt 0 counted.arcs; named = has_line counted id }
context counted r = plain_context counted

-- a node with a supply, perhaps 0
abbrev pub IsNamed : ℕ → ℕ × ℤ → Type 0
IsNamed nodes s = IsNode nodes s.0 × IsWhole s.1

-- a lawful state
pub record IsMinBegun (begun : MinBegun) : Type 0 where
  pub nodes_few : begun.nodes ≤ most_nodes
  pub arcs_few : begun.declared ≤ most_count
  pub no_more : length begun.arcs ≤ begun.declared
  pub supplied : All (IsNamed begun.nodes) (entries begun.supplies)
  pub joined : All (JoinsNodes begun.nodes) begun.arcs
  pub bounds : All HasBounds begun.arcs

-- these records may lead to this state; their arcs are counted
pub record IsMinCountedBy (counted : MinCount) (rs : List Record) : Type 0 where
  pub begun : MinBegun
  pub is_begun : IsMinBegun begun
  pub built_from : IsMinBegunBy begun rs
  pub counts : counted ≡ count_of begun
