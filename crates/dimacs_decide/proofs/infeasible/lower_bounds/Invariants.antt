use Rattle.std.proofs.Common.{◌≡◌, map, take}
use Rattle.dimacs_network.specs.declared.network.ArcView.{ArcView}
use Rattle.dimacs_decide.proofs.infeasible.lower_bounds.Given as goal

abbrev pub invariant-loop-i : goal.invariant-loop-i
invariant-loop-i g l = l.amounts.items ≡ map (λ (a : ArcView). a.low) (take l.i (g.N.Network.list l.network))
