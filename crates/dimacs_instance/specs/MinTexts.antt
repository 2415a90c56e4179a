-- The texts that spell minimum cost flow instances.
use Rattle.std.specs.{Prelude.{ℕ, ℤ, ◌≡◌, List, ◌∷◌, ◌++◌, map, length, [], codes}, Fmt.{decimal}, List.{filter}}
use Rattle.std.specs.FinMap.{entries, from_entries}
use Rattle.dimacs_lines.specs.Lines.{lines}
use Rattle.dimacs_records.specs.{declared.kinds.TextKind.TheVariants.{Min}, declared.records.Record.{Record}}
use Rattle.dimacs_records.specs.{declared.records.Record.TheVariants.{MinProblem, MinNode, MinArc}, Printed.{shown}}
use Rattle.dimacs_records.specs.{Canonical.{canonical_text}, Readings.{LineRecord, records_of}, Texts.{SpellsValue}}
use Rattle.dimacs_records.specs.NodeValues.{NameNodes, has_value}
use Rattle.dimacs_network.specs.declared.network.ArcView.{ArcView}
use Rattle.dimacs_instance.specs.MinFlows.{MinValue, IsMin, supply_sum, demand_sum}

-- the line of a node and its supply
abbrev pub min_node : ℕ × ℤ → Record
min_node s = MinNode s.0 s.1

abbrev pub min_arc : ArcView → Record
min_arc a = MinArc a.tail a.head a.low a.cap a.cost

-- the problem line, the node lines, then the arcs
abbrev pub min_records : ℕ → ℕ → List (ℕ × ℤ) → List ArcView → List Record
min_records nodes count named arcs = MinProblem nodes count ∷ map min_node named ++ map min_arc arcs

-- the node lines name every node whose supply isn't 0, and perhaps others
pub record GivesMin (rs : List LineRecord) (m : MinValue) : Type 0 where
  pub named : List (ℕ × ℤ)
  pub name_nodes : NameNodes m.nodes named
  pub supplies : m.supplies ≡ from_entries (filter has_value named)
  pub records : records_of rs ≡ min_records m.nodes (length m.arcs) named m.arcs
  pub is_min : IsMin m

-- the text spells this instance
abbrev pub SpellsMin : List ℕ → MinValue → Type 0
SpellsMin text m = SpellsValue Min GivesMin (lines text) m

-- node lines are ordered by ID; those with supply 0 are left out
abbrev pub canonical_min_records : MinValue → List Record
canonical_min_records m = min_records m.nodes (length m.arcs) (entries m.supplies) m.arcs

abbrev pub canonical_min : MinValue → List ℕ
canonical_min m = canonical_text (canonical_min_records m)

-- the line about an instance, with the sums of its positive and its negative supplies, without a sign
abbrev pub shown_min : MinValue → List ℕ
shown_min m = shown (codes "min" ∷ decimal m.nodes ∷ decimal (length m.arcs) ∷ decimal (supply_sum m) ∷ decimal (demand_sum m) ∷ [])
