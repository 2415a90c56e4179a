use Rattle.std.proofs.Common.{◌≡◌, List}
use Rattle.dimacs_network.specs.declared.network.ArcView.{ArcView}
use Rattle.dimacs_claims.specs.Labels.{BlockValue}
use Rattle.dimacs_judging.specs.{CertificateTests.{support_row}, inside.NodeLabels.{AreSupported, entries}}
use Rattle.dimacs_judging.specs.Tests.{ClearBelow}
use Rattle.dimacs_judging.proofs.node_labels.labels_supported.Given as goal

abbrev pub invariant-loop-i : goal.invariant-loop-i
invariant-loop-i g l = (arcs : List ArcView) (b : BlockValue) → b.labels ≡ l.labels → AreSupported arcs b (entries g.D.Distance.value l.node_labels) → ClearBelow (support_row arcs b) l.i
