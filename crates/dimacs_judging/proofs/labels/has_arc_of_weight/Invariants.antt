use Rattle.dimacs_judging.proofs.SupportLemmas.{NoneBelow}
use Rattle.dimacs_judging.proofs.labels.has_arc_of_weight.Given as goal

-- none of the first arcs between the ends has the weight
abbrev pub invariant-loop-k : goal.invariant-loop-k
invariant-loop-k g l = NoneBelow (g.N.Network.list l.network) l.fn.label l.fn.base l.k
