use Rattle.dimacs_judging.specs.{inside.Labels.{block_at}, CertificateTests.{relax_row}, Tests.{ClearBelow}}
use Rattle.dimacs_judging.proofs.labels.arcs_relaxed.Given as goal

abbrev pub invariant-loop-i : goal.invariant-loop-i
invariant-loop-i g l = ClearBelow (relax_row (g.N.Network.list l.network) (block_at l.labels.blocks l.block)) l.i
