use Rattle.std.proofs.Common.{◌≡◌}
use Rattle.dimacs_solve.specs.inside.NodeStates.{known}
use Rattle.dimacs_solve.proofs.SearchLemmas.{IsRelaxing}
use Rattle.dimacs_solve.proofs.search.relax.Given as goal

-- the arcs so far are relaxed
abbrev pub invariant-loop-out_arc : goal.invariant-loop-out_arc
invariant-loop-out_arc g l = record {
  relaxing : IsRelaxing l.adjacency (g.D.SearchDistance.value l.dist) (known g.D.SearchDistance.value l.initial.node_states) l.initial.frontier l.out_arcs l.out_arc-index (known g.D.SearchDistance.value l.node_states) l.frontier;
  round : l.node_states.round ≡ l.initial.node_states.round;
}
