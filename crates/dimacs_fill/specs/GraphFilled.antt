-- Graphs in the arrays of a caller.
use Rattle.std.specs.Prelude.{ℕ, ℤ, List, length, Result}
use Rattle.dimacs_records.specs.{declared.faults.ReadError.{ReadError}, declared.kinds.TextKind.TheVariants.{Graph}}
use Rattle.dimacs_network.specs.Arcs.{NetworkValue}
use Rattle.dimacs_instance.specs.Graph.{SpellsGraph}
use Rattle.dimacs_fill.specs.declared.graph.GraphSizes.{GraphSizes}
use Rattle.dimacs_fill.specs.Filling.{Array, IsFilled, ReadsArcsInto, tails_of, heads_of, costs_of}

abbrev pub graph_sizes : NetworkValue → GraphSizes
graph_sizes g = record { nodes = g.nodes; arcs = length g.arcs }

-- the arrays get the tails, heads and weights
abbrev pub HoldGraph : Array ℕ → Array ℕ → Array ℤ → NetworkValue → Type 0
HoldGraph tails heads weights g =
    IsFilled (tails_of g.arcs) tails × IsFilled (heads_of g.arcs) heads × IsFilled (costs_of g.arcs) weights

abbrev pub ReadsGraphInto : List ℕ → Array ℕ → Array ℕ → Array ℤ → Result GraphSizes ReadError → Type 0
ReadsGraphInto text tails heads weights =
    ReadsArcsInto Graph text (SpellsGraph text) graph_sizes (HoldGraph tails heads weights)
