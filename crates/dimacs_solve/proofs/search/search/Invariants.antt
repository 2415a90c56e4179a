use Rattle.std.proofs.Common.{◌≡◌, ◌+◌}
use Rattle.dimacs_solve.specs.{inside.NodeStates.{known}, inside.Search.{IsPathSearch, work}}
use Rattle.dimacs_solve.proofs.search.search.Given as goal

abbrev pub invariant-loop-walk : goal.invariant-loop-walk
invariant-loop-walk g l = record {
  search : IsPathSearch l.adjacency l.block (known g.D.SearchDistance.value l.node_states) l.frontier;
  from : l.block.source ≡ l.source;
  round : l.node_states.round ≡ l.fn.node_states.round + 1;
}

abbrev pub decreases-loop-walk : goal.decreases-loop-walk
decreases-loop-walk g l = work l.adjacency (known g.D.SearchDistance.value l.node_states) l.frontier
