use Rattle.dimacs_judging.specs.inside.NodeLabels.{DefaultsToNone, entries}
use Rattle.dimacs_judging.proofs.NodeLabelLemmas.{AreLabelledFirst}
use Rattle.dimacs_judging.proofs.node_labels.set_labels.Given as goal

abbrev pub invariant-loop-i : goal.invariant-loop-i
invariant-loop-i g l = record {
  defaults : DefaultsToNone g.D.Distance.value l.node_labels;
  first : AreLabelledFirst l.block l.i (entries g.D.Distance.value l.node_labels);
}
