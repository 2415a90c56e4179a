use Rattle.dimacs_facts.proofs.WalkLemmas.{AreEased}
use Rattle.dimacs_facts.proofs.least.are_least.Given as goal

abbrev pub invariant-loop-i : goal.invariant-loop-i
invariant-loop-i g l = AreEased (g.N.Network.list l.network) l.walks l.i
