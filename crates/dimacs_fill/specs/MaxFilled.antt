-- Maximum flow instances in the arrays of a caller.
use Rattle.std.specs.Prelude.{ℕ, ℤ, List, length, Result}
use Rattle.dimacs_records.specs.{declared.faults.ReadError.{ReadError}, declared.kinds.TextKind.TheVariants.{Max}}
use Rattle.dimacs_instance.specs.{MaxFlows.{MaxValue}, MaxTexts.{SpellsMax}}
use Rattle.dimacs_fill.specs.declared.max.MaxSizes.{MaxSizes}
use Rattle.dimacs_fill.specs.Filling.{Array, IsFilled, ReadsArcsInto, tails_of, heads_of, caps_of}

abbrev pub max_sizes : MaxValue → MaxSizes
max_sizes m = record { nodes = m.nodes; source = m.source; sink = m.sink; arcs = length m.arcs }

-- the arrays get the tails, heads and capacities
abbrev pub HoldMax : Array ℕ → Array ℕ → Array ℤ → MaxValue → Type 0
HoldMax tails heads caps m =
    IsFilled (tails_of m.arcs) tails × IsFilled (heads_of m.arcs) heads × IsFilled (caps_of m.arcs) caps

abbrev pub ReadsMaxInto : List ℕ → Array ℕ → Array ℕ → Array ℤ → Result MaxSizes ReadError → Type 0
ReadsMaxInto text tails heads caps = ReadsArcsInto Max text (SpellsMax text) max_sizes (HoldMax tails heads caps)
