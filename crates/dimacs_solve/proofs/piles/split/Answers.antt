use Rattle.dimacs_solve.proofs.{FrontierLemmas.{longer, no_longer}, PileLemmas.{split_closer, split_farther}}
use Rattle.dimacs_solve.proofs.piles.split.Goals.{then-lt+in_ok-push, else-lt+in_ok-push-2}
use Rattle.dimacs_solve.proofs.piles.split.Goals as goal

pub loop-walk-preserved : goal.loop-walk-preserved
loop-walk-preserved g c =
    let value = g.D.SearchDistance.value in
    let walk = c.walk-item.result in
    elim c.if-lt.branch [
      | then-lt+in_ok-push w ↦ rw (w.closer-is, w.farther-is, w.in_ok-push.ensures.items) (split_farther value (value c.args.middle) c.loop-walk.walk-index c.args.walks.now c.loop-walk.closer.items c.loop-walk.farther.items walk walk c.loop-walk-test.true c.walk-item.is
          (longer value g.D.Ord.cmp g.D.PartialOrd.partial_cmp g.met.D.Ord.matches_partial_cmp g.met.D.SearchDistance.in_order c.args.middle walk.0.dist w.if-lt.ensures) c.loop-walk.invariant)
      | else-lt+in_ok-push-2 w ↦ rw (w.closer-is, w.farther-is, w.in_ok-push-2.ensures.items) (split_closer value (value c.args.middle) c.loop-walk.walk-index c.args.walks.now c.loop-walk.closer.items c.loop-walk.farther.items walk walk c.loop-walk-test.true c.walk-item.is
          (no_longer value g.D.Ord.cmp g.D.PartialOrd.partial_cmp g.met.D.Ord.matches_partial_cmp g.met.D.SearchDistance.in_order c.args.middle walk.0.dist w.if-lt.ensures) c.loop-walk.invariant)
    ]
