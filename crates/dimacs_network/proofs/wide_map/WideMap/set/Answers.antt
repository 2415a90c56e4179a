use Rattle.std.specs.Int.{w128}
use Rattle.std.proofs.{lemmas.Int.{to_z-of_z}, lemmas.Result.{on_err_weaker}}
use Rattle.dimacs_network.proofs.MapLemmas.{HasSlot-value, below_greatest-none, below_greatest-some, made_of-same, made_of-set_ok}
use Rattle.dimacs_network.proofs.wide_map.WideMap.set.Goals as goal

pub returns-clause-set : goal.returns-clause-set
returns-clause-set c =
    let set = rw (to_z-of_z w128 c.args.number c.ranges.number) at c.set.ensures.set in
    rw (← c.self.view_is) (made_of-set_ok _ c.set.result _ _ c.args.id _ c.args.number (below_greatest-none _ c.self.invariant) c.set.ensures.same_blank (below_greatest-some _ c.requires) set c.set.ensures.others)

pub returns-clause-unchanged : goal.returns-clause-unchanged
returns-clause-unchanged c = rw (← c.self.view_is) (on_err_weaker c.set.result (λ same. made_of-same _ _ _ (below_greatest-none _ c.self.invariant) c.set.ensures.same_blank same) c.set.ensures.unchanged)

pub returns-clause-replaces : goal.returns-clause-replaces
returns-clause-replaces c = λ some. c.set.ensures.replaces (HasSlot-value _ _ c.args.id (below_greatest-none _ c.self.invariant) (rw (← c.self.view_is) at some))
