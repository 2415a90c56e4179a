use Rattle.dimacs_network.specs.DenseTables.{SameNodes}
use Rattle.dimacs_judging.specs.inside.LabelsAtOnce.{AreSmall, entries_at}
use Rattle.dimacs_judging.proofs.NodeLabelLemmas.{AreLabelledFirst}
use Rattle.dimacs_judging.proofs.labels_at_once.set_labels.Given as goal

abbrev pub invariant-loop-i : goal.invariant-loop-i
invariant-loop-i l = record {
  first : AreLabelledFirst l.block l.i (entries_at l.table);
  small : AreSmall l.table;
  nodes : SameNodes l.fn.table l.table;
}
