use Rattle.std.proofs.Common.{sym, ◌∙◌}
use Rattle.dimacs_network.proofs.MapLemmas.{made_of-none}
use Rattle.dimacs_network.proofs.node_map.NodeMap.new.Goals as goal

pub returns : goal.returns
returns g c = made_of-none _ c.new.result c.new.ensures.blank (λ id. c.new.ensures.values id ∙ sym c.new.ensures.blank)
