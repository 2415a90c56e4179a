use Rattle.dimacs_network.proofs.MapLemmas.{made_of-skips}
use Rattle.dimacs_network.proofs.node_map.NodeMap.next.Goals as goal

pub returns : goal.returns
returns g c = rw (← c.self.view_is) (made_of-skips _ _ _ _ _ c.self.invariant c.next.ensures)
