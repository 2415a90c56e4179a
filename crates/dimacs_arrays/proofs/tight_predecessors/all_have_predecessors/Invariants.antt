use Rattle.std.proofs.Common.{◌≢◌, ℕ, ◌<◌}
use Rattle.dimacs_decide.specs.{Claims.{claimed_by_node}, Predecessors.{NeedsPredecessor, pred_by_node}}
use Rattle.dimacs_arrays.proofs.tight_predecessors.all_have_predecessors.Given as goal

-- the nodes before v that need a predecessor have one
abbrev pub invariant-loop-v : goal.invariant-loop-v
invariant-loop-v l = (u : ℕ) → u < l.v → NeedsPredecessor l.source (claimed_by_node l.distances) u → pred_by_node l.predecessors u ≢ 0
