use Rattle.dimacs_arrays.proofs.LabelDistanceLemmas.{AreReachedBy}
use Rattle.dimacs_arrays.proofs.label_distances.distances_of.Given as goal

-- the distances of the labels before i
abbrev pub invariant-loop-i : goal.invariant-loop-i
invariant-loop-i l = AreReachedBy l.block l.nodes l.distances.items l.i
