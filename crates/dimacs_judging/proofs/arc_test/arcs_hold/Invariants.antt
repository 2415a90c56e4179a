use Rattle.dimacs_judging.specs.{Tests.{ClearBelow}, Rows.{flow_row}}
use Rattle.dimacs_judging.proofs.arc_test.arcs_hold.Given as goal

abbrev pub invariant-loop-i : goal.invariant-loop-i
invariant-loop-i g l = ClearBelow (flow_row (g.T.ArcTest.fails l.test) (g.N.Network.list l.network) l.flow) l.i
