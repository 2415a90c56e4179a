use Rattle.std.proofs.Common.{◌≡◌, length}
use Rattle.dimacs_arrays.proofs.PredLemmas.{AreFilled}
use Rattle.dimacs_arrays.proofs.predecessors.predecessors_of.Given as goal

-- the predecessors of the labels before i
abbrev pub invariant-loop-i : goal.invariant-loop-i
invariant-loop-i l = record {
  each : length l.predecessors.items ≡ l.nodes;
  filled : AreFilled l.block.labels l.predecessors.items l.i;
}
