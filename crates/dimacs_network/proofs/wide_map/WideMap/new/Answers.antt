use Rattle.std.proofs.Common.{sym, ◌∙◌}
use Rattle.dimacs_network.proofs.MapLemmas.{below_greatest-none, made_of-none}
use Rattle.dimacs_network.proofs.wide_map.WideMap.new.Goals as goal

pub returns : goal.returns
returns c = made_of-none _ c.new.result (below_greatest-none _ c.new.ensures.blank) (λ id. c.new.ensures.values id ∙ sym c.new.ensures.blank)
