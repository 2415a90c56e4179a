use Rattle.dimacs_network.proofs.MapLemmas.{below_greatest-none, made_of-skips}
use Rattle.dimacs_network.proofs.wide_map.WideMap.next.Goals as goal

pub returns : goal.returns
returns c = rw (← c.self.view_is) (made_of-skips _ _ _ _ _ (below_greatest-none _ c.self.invariant) c.next.ensures)
