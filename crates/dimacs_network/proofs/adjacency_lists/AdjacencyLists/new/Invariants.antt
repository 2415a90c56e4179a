use Rattle.dimacs_network.specs.{Tables.{value_of}, AdjacencyLists.{AreLinked}}
use Rattle.dimacs_network.proofs.adjacency_lists.AdjacencyLists.new.Given as goal

abbrev pub invariant-loop-i : goal.invariant-loop-i
invariant-loop-i g l = AreLinked l.side (g.N.Network.list l.network) l.i (value_of l.last) l.before.items
