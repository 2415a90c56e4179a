use Rattle.dimacs_judging.specs.inside.NodeLabels.{DefaultsToNone, entries}
use Rattle.dimacs_judging.proofs.LeavingLemmas.{AreRelaxedFirst}
use Rattle.dimacs_judging.proofs.leaving.relax_leaving.Given as goal

-- the arcs that leave the source and the nodes of the labels so far are relaxed
abbrev pub invariant-loop-i : goal.invariant-loop-i
invariant-loop-i g l = record {
  defaults : DefaultsToNone g.D.Distance.value l.node_labels;
  relaxed : AreRelaxedFirst (g.N.Network.list l.network) l.block l.i (entries g.D.Distance.value l.node_labels);
}
