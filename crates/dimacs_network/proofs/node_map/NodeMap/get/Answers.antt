use Rattle.std.proofs.Common.{sym, ◌∙◌}
use Rattle.dimacs_network.proofs.MapLemmas.{get-made_of}
use Rattle.dimacs_network.proofs.node_map.NodeMap.get.Goals as goal

pub returns : goal.returns
returns g c = rw (← c.self.view_is) (c.get.ensures.value ∙ sym (get-made_of _ _ c.args.id c.self.invariant))
