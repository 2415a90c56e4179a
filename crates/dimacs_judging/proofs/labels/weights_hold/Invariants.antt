use Rattle.dimacs_judging.specs.{CertificateTests.{negative_row}, Tests.{ClearBelow}}
use Rattle.dimacs_judging.proofs.labels.weights_hold.Given as goal

abbrev pub invariant-loop-i : goal.invariant-loop-i
invariant-loop-i g l = ClearBelow (negative_row (g.N.Network.list l.network)) l.i
