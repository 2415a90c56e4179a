use Rattle.dimacs_decide.specs.inside.Cancelling.{HasCapacityFor}
use Rattle.dimacs_decide.proofs.cancel.least_residual_capacity.Given as goal

abbrev pub invariant-loop-j : goal.invariant-loop-j
invariant-loop-j g l = HasCapacityFor (g.N.Network.list l.network) l.flow l.cycle l.j l.least
