use Rattle.std.proofs.Common.{◌≡◌, ◌≤◌, [], length, take}
use Rattle.dimacs_instance.specs.QueryTexts.{asked}
use Rattle.dimacs_claims.specs.Labels.{AreSources}
use Rattle.dimacs_judging.specs.QueryTests.{sources_asked}
use Rattle.dimacs_solve.specs.inside.Blocks.{AreSolved}
use Rattle.dimacs_solve.proofs.paths.solve_all.Given as goal

abbrev pub invariant-loop-i : goal.invariant-loop-i
invariant-loop-i g l = record {
  solved : AreSolved l.adjacency (take l.i (sources_asked (asked l.queries))) l.labels;
  rounds : l.node_states.round ≡ length l.labels.blocks;
  done : AreSources l.done l.labels.blocks;
  blocks_bounded : length l.labels.blocks ≤ l.i;
  empty : l.frontier ≡ [];
}
