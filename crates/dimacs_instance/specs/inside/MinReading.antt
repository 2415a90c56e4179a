-- Inside: a minimum cost flow instance while its text is read.
use Rattle.std.specs.Prelude.{[]}
use Rattle.dimacs_instance.specs.MinReading.{MinBegun, MinCount}

-- what was read, without arcs
abbrev pub without_arcs : MinCount → MinBegun
without_arcs counted = record { nodes = counted.nodes; declared = counted.declared; supplies = counted.supplies; arcs = [] }
