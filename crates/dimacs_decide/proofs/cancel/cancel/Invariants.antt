use Rattle.dimacs_decide.specs.inside.Cancelling.{IsCancelling}
use Rattle.dimacs_decide.proofs.cancel.cancel.Given as goal

abbrev pub invariant-loop-j : goal.invariant-loop-j
invariant-loop-j g l = IsCancelling (g.N.Network.list l.network) l.initial.flow l.flow l.cycle l.j l.amount
