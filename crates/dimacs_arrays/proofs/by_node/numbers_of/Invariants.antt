use Rattle.std.proofs.Common.{◌≡◌, map}
use Rattle.std.specs.List.{range_with_len}
use Rattle.dimacs_arrays.proofs.ByNodeLemmas.{sum_of}
use Rattle.dimacs_arrays.proofs.by_node.numbers_of.Given as goal

-- the numbers so far
abbrev pub invariant-loop-i : goal.invariant-loop-i
invariant-loop-i l = l.numbers.items ≡ map (sum_of l.potentials l.shift) (range_with_len 1 l.i)
