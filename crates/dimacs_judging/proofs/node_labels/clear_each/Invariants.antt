use Rattle.dimacs_judging.specs.inside.NodeLabels.{DefaultsToNone, entries}
use Rattle.dimacs_judging.proofs.NodeLabelLemmas.{AreUnlabelledBut}
use Rattle.dimacs_judging.proofs.node_labels.clear_each.Given as goal

abbrev pub invariant-loop-i : goal.invariant-loop-i
invariant-loop-i g l = record {
  defaults : DefaultsToNone g.D.Distance.value l.node_labels;
  others : AreUnlabelledBut l.block l.i (entries g.D.Distance.value l.node_labels);
}
