use Rattle.std.proofs.Common.{IfSome, take}
use Rattle.dimacs_judging.specs.{CertificateTests.{label_rows}, LightestArcs.{AreLightest}, Tests.{AllClear}}
use Rattle.dimacs_judging.specs.inside.NodeLabels.{AllUnlabelled, AreAsTested}
use Rattle.dimacs_judging.proofs.node_labels.labelled_blocks_hold.Given as goal

-- all tests of the blocks so far pass
abbrev pub invariant-loop-i : goal.invariant-loop-i
invariant-loop-i g l = record {
  clear : AllClear (label_rows (g.N.Network.list l.network) (take l.i l.labels.blocks));
  unlabelled : AllUnlabelled l.tables;
  tested : AreAsTested (g.N.Network.list l.network) l.weights;
  lightest : IfSome l.lightest (AreLightest (g.N.Network.list l.network));
}
