use Rattle.std.proofs.Common.{length}
use Rattle.dimacs_judging.specs.Tests.{ClearBelow}
use Rattle.dimacs_decide.specs.{Claims.{claimed_by_node}, Predecessors.{pred_by_node}}
use Rattle.dimacs_arrays.specs.Paths.{pred_row}
use Rattle.dimacs_arrays.proofs.labels.predecessors_hold.Given as goal

abbrev pub invariant-loop-v : goal.invariant-loop-v
invariant-loop-v l = ClearBelow (pred_row (length l.distances) l.source (claimed_by_node l.distances) (pred_by_node l.predecessors)) l.v
