use Rattle.dimacs_facts.specs.Walks.{AreWalks}
use Rattle.dimacs_facts.proofs.search.walks_along.Given as goal

abbrev pub invariant-loop-round : goal.invariant-loop-round
invariant-loop-round g l = AreWalks (g.N.Network.list l.network) l.source l.by_node
