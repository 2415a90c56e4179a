use Rattle.dimacs_judging.specs.inside.NodeLabels.{AreRelaxedBelow}
use Rattle.dimacs_judging.proofs.node_labels.relax_all.Given as goal

abbrev pub invariant-loop-i : goal.invariant-loop-i
invariant-loop-i g l = AreRelaxedBelow g.D.Distance.value (g.N.Network.list l.network) l.block l.i l.count l.node_labels
