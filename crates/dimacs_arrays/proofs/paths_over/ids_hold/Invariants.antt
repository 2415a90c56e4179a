use Rattle.dimacs_arrays.specs.inside.PathsSpelled.{AreInRangeBelow}
use Rattle.dimacs_arrays.proofs.paths_over.ids_hold.Given as goal

-- the IDs so far are in range
abbrev pub invariant-loop-i : goal.invariant-loop-i
invariant-loop-i l = AreInRangeBelow l.froms l.tos l.i
