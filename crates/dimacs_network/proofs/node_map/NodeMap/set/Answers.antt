use Rattle.std.proofs.{Common.{refl}, lemmas.Result.{on_err_weaker}}
use Rattle.dimacs_network.proofs.MapLemmas.{HasSlot-value, made_of-same, made_of-set_ok}
use Rattle.dimacs_network.proofs.node_map.NodeMap.set.Goals as goal

pub returns-clause-set : goal.returns-clause-set
returns-clause-set g c = rw (← c.self.view_is) (made_of-set_ok _ c.set.result _ _ c.args.id _ c.args.value c.self.invariant c.set.ensures.same_blank refl c.set.ensures.set c.set.ensures.others)

pub returns-clause-unchanged : goal.returns-clause-unchanged
returns-clause-unchanged g c = rw (← c.self.view_is) (on_err_weaker c.set.result (λ same. made_of-same _ _ _ c.self.invariant c.set.ensures.same_blank same) c.set.ensures.unchanged)

pub returns-clause-replaces : goal.returns-clause-replaces
returns-clause-replaces g c = λ some. c.set.ensures.replaces (HasSlot-value _ _ c.args.id c.self.invariant (rw (← c.self.view_is) at some))
