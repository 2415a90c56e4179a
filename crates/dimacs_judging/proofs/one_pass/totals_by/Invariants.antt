use Rattle.dimacs_judging.proofs.OnePass.{HaveAdded}
use Rattle.dimacs_judging.proofs.one_pass.totals_by.Given as goal

abbrev pub invariant-loop-i : goal.invariant-loop-i
invariant-loop-i g l = HaveAdded (g.N.Network.node_count l.network) (g.N.Network.list l.network) (g.P.HasPotentials.potential l.potentials) (g.P.HasPotentials.fails l.potentials) l.flow l.i (g.T.NodeStates.state l.sums.states) l.sums.cost
