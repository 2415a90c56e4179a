use Rattle.std.proofs.{Common.{rules, ◌^◌, arith}, lemmas.Int.{ints}}
use Rattle.dimacs_judging.specs.{inside.Ranges.{IsOfSize}, Cuts.{members}}
use Rattle.dimacs_judging.proofs.CrossLemmas.{skipped_supply, supply_more}
use Rattle.dimacs_instance.specs.MinFlows.{supply_of}
use Rattle.dimacs_judging.proofs.crossing.supply_in.Goals as goal

pub loop-v-preserved : goal.loop-v-preserved
loop-v-preserved g c =
    let small : IsOfSize (2 ^ 63) c.supply_at.result = omega (arith, ints) in
    let skip = c.next_supply-v.ensures in
    let more = supply_more (supply_of c.args.instance.now) (members c.args.set.now) c.loop-v.v _ c.supply_at.result c.from-sum.result c.loop-v.invariant.low (omega (arith, c.loop-v-test.true, c.nodes-end.ensures, c.network.ensures.nodes, c.network.ensures.lawful.nodes_few)) c.loop-v.invariant.sum small c.supply_at.ensures c.from-sum.ensures (search rules) in
    record {
      low = omega (arith, skip.onward);
      within = skip.within;
      sum = skipped_supply (supply_of c.args.instance.now) (members c.args.set.now) _ _ _ _ (omega arith) skip more;
    }
