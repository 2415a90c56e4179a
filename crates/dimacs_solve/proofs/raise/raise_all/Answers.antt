use Rattle.dimacs_solve.proofs.RaisedLemmas.{all_dealt, dealt_more, none_dealt, sums_still}
use Rattle.dimacs_solve.proofs.raise.raise_all.Goals as goal

pub loop-place-init : goal.loop-place-init
loop-place-init g c = record {
  dealt = none_dealt c.args.arcs.now c.args.order.now c.requires.rests.0 c.args.rests.now c.args.amounts.now c.requires.bounds c.requires.rests.1 c.requires.lows;
  sums = λ entries sums. sums;
}

pub loop-place-preserved : goal.loop-place-preserved
loop-place-preserved g c =
    let here = c.loop-place.invariant in
    record {
      dealt = dealt_more c.args.arcs.now c.args.order.now c.requires.by_cost c.loop-place.place-index c.loop-place-test.true c.loop-place.rests c.loop-place.amounts c.raise.new.rests c.raise.new.amounts here.dealt c.raise.ensures;
      sums = λ entries sums. sums_still c.args.arcs.now c.args.order.now c.requires.by_cost c.loop-place.place-index c.loop-place-test.true c.loop-place.rests c.loop-place.amounts c.raise.new.rests c.raise.new.amounts here.dealt c.raise.ensures entries (here.sums entries sums);
    }

pub returns : goal.returns
returns g c = record {
  dealt = all_dealt c.args.arcs.now c.args.order.now c.loop-place.place-index c.loop-place.rests c.loop-place.amounts c.requires.by_cost c.loop-place-test.false c.loop-place.invariant.dealt;
  sums = c.loop-place.invariant.sums;
}
