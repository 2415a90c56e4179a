use Rattle.dimacs_judging.proofs.StepLemmas.{IsBalanceOf}
use Rattle.dimacs_judging.proofs.value.balance_at.Given as goal

abbrev pub invariant-loop-i : goal.invariant-loop-i
invariant-loop-i g l = IsBalanceOf (g.N.Network.list l.network) l.flow l.i l.node l.sum
