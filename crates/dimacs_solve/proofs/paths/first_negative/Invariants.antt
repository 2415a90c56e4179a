use Rattle.std.proofs.Common.{ℕ, ◌<◌}
use Rattle.dimacs_network.specs.Arcs.{arc_at}
use Rattle.dimacs_solve.specs.Paths.{HasNoNegativeWeight}
use Rattle.dimacs_solve.proofs.paths.first_negative.Given as goal

abbrev pub invariant-loop-i : goal.invariant-loop-i
invariant-loop-i g l = (k : ℕ) → k < l.i → HasNoNegativeWeight (arc_at (g.N.Network.list l.network) k)
