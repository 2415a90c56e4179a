use Rattle.dimacs_network.specs.DenseTables.{HasNodes}
use Rattle.dimacs_judging.specs.{CertificateTests.{relax_row}, Tests.{ClearBelow}}
use Rattle.dimacs_judging.specs.inside.LabelsAtOnce.{AreSmall, entries_at}
use Rattle.dimacs_judging.specs.inside.NodeLabels.{HasLabels, supported_count}
use Rattle.std.proofs.Common.{◌≤◌}
use Rattle.dimacs_judging.proofs.labels_at_once.relax_all.Given as goal

-- the first arcs are relaxed without a failure, and at least `count` labels are supported
abbrev pub invariant-loop-i : goal.invariant-loop-i
invariant-loop-i g l = record {
  labelled : HasLabels (g.N.Network.list l.network) l.block (entries_at l.table);
  few : l.count ≤ l.i;
  count : l.count ≤ supported_count l.block (entries_at l.table);
  clear : ClearBelow (relax_row (g.N.Network.list l.network) l.block) l.i;
  small : AreSmall l.table;
  nodes : HasNodes l.table (g.N.Network.node_count l.network);
}
