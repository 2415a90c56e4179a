-- Minimum cost flow instances in the arrays of a caller.
use Rattle.std.specs.{Prelude.{ℕ, ℤ, List, length, map, Result}, List.{range_with_len}}
use Rattle.dimacs_records.specs.{declared.faults.ReadError.{ReadError}, declared.kinds.TextKind.TheVariants.{Min}}
use Rattle.dimacs_instance.specs.{MinFlows.{MinValue, supply_of}, MinTexts.{SpellsMin}}
use Rattle.dimacs_fill.specs.declared.min.MinSizes.{MinSizes}
use Rattle.dimacs_fill.specs.Filling.{Array, IsFilled, ReadsArcsInto, tails_of, heads_of, lows_of, caps_of, costs_of}

abbrev pub min_sizes : MinValue → MinSizes
min_sizes m = record { nodes = m.nodes; arcs = length m.arcs }

-- the supply of each node, by ID
abbrev pub supplies_of : MinValue → List ℤ
supplies_of m = map (supply_of m) (range_with_len 1 m.nodes)

-- the arrays get the tails, heads, lower bounds, capacities and costs, and the supplies
abbrev pub HoldMin : Array ℕ → Array ℕ → Array ℤ → Array ℤ → Array ℤ → Array ℤ → MinValue → Type 0
HoldMin tails heads lows caps costs supplies m =
    IsFilled (tails_of m.arcs) tails × IsFilled (heads_of m.arcs) heads × IsFilled (lows_of m.arcs) lows × IsFilled (caps_of m.arcs) caps × IsFilled (costs_of m.arcs) costs × IsFilled (supplies_of m) supplies

abbrev pub ReadsMinInto : List ℕ → Array ℕ → Array ℕ → Array ℤ → Array ℤ → Array ℤ → Array ℤ → Result MinSizes ReadError → Type 0
ReadsMinInto text tails heads lows caps costs supplies =
    ReadsArcsInto Min text (SpellsMin text) min_sizes (HoldMin tails heads lows caps costs supplies)
