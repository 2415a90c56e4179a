use Rattle.std.proofs.{Common.{w64, arith}, lemmas.Int.{to_z-of_z, ints}}
use Rattle.dimacs_instance.proofs.SupplyLemmas.{min_after_set, supply_set}
use Rattle.dimacs_instance.proofs.min.MinInstance+PlainArcs+ArcView.set_supply.Goals as goal

pub invariant_of-self : goal.invariant_of-self
invariant_of-self c =
    let set = rw (to_z-of_z w64 c.args.supply c.ranges.supply) at c.set.ensures.set in
    let node = rw (← c.self.view_is) at c.requires.node in
    min_after_set _ _ _ c.set.new.self c.args.id c.args.supply c.set.result set c.set.ensures.unchanged c.self.invariant node (omega (arith, ints, c.ranges.supply), omega (arith, ints, c.ranges.supply))

pub returns-clause-set : goal.returns-clause-set
returns-clause-set c =
    let set = rw (to_z-of_z w64 c.args.supply c.ranges.supply) at c.set.ensures.set in
    rw (← c.self.view_is) (supply_set _ _ _ c.set.new.self c.args.id c.args.supply c.set.result set)
