use Rattle.dimacs_arrays.proofs.LimitLemmas.{AreInRangeBelow}
use Rattle.dimacs_arrays.proofs.limits.arcs_hold.Given as goal

-- the arcs so far are in range
abbrev pub invariant-loop-i : goal.invariant-loop-i
invariant-loop-i g l = AreInRangeBelow (g.N.Network.node_count l.network) (g.N.Network.list l.network) l.i
