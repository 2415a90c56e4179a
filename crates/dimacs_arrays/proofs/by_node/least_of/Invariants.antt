use Rattle.dimacs_arrays.proofs.ByNodeLemmas.{IsLeastUpTo}
use Rattle.dimacs_arrays.proofs.by_node.least_of.Given as goal

abbrev pub invariant-loop-i : goal.invariant-loop-i
invariant-loop-i l = IsLeastUpTo l.potentials l.i l.least
