use Rattle.std.proofs.{Common.{◌≤◌, heap_items}, lemmas.Result.{on_ok_weaker}, lemmas.List.Sorted.{IsPermutation-trans}}
use Rattle.dimacs_solve.specs.inside.Frontiers.{in_piles, walk_of, walks_in}
use Rattle.dimacs_solve.proofs.{FrontierLemmas.{no_longer, pushed, pushed_within}, PileLemmas.{put_behind}}
use Rattle.dimacs_solve.proofs.frontier.Frontier.push.Goals as goal

pub returns-then-lt : goal.returns-then-lt
returns-then-lt g c =
    let value = g.D.SearchDistance.value in
    rw (← c.self.view_is) (on_ok_weaker c.put_aside.result (put_behind value (walks_in value (heap_items c.self.inside.near)) (walk_of value c.args.walk) (in_piles value c.self.inside.piles.items) (in_piles value c.put_aside.new.piles.items)) c.put_aside.ensures.put)

pub invariant_of-self-then-len-self : goal.invariant_of-self-then-len-self
invariant_of-self-then-len-self g c =
    let value = g.D.SearchDistance.value in
    let short : value c.args.walk.dist ≤ value c.self.inside.bound = no_longer value g.D.Ord.cmp g.D.PartialOrd.partial_cmp g.met.D.Ord.matches_partial_cmp g.met.D.SearchDistance.in_order c.self.inside.bound c.args.walk.dist c.if-lt.ensures in
    record {
      heap = c.in_ok-push.ensures.heap_order c.self.invariant.heap;
      within = pushed_within value g.D.Ord.cmp g.met.D.SearchDistance.in_order _ _ _ (value c.self.inside.bound) c.in_ok-push.ensures.permutation short c.self.invariant.within;
      aside = c.self.invariant.aside;
    }

pub invariant_of-self-else-len-self : goal.invariant_of-self-else-len-self
invariant_of-self-else-len-self g c =
    let value = g.D.SearchDistance.value in
    let short : value c.args.walk.dist ≤ value c.self.inside.bound = no_longer value g.D.Ord.cmp g.D.PartialOrd.partial_cmp g.met.D.Ord.matches_partial_cmp g.met.D.SearchDistance.in_order c.self.inside.bound c.args.walk.dist c.if-lt.ensures in
    record {
      heap = c.in_ok-push.ensures.heap_order c.self.invariant.heap;
      within = pushed_within value g.D.Ord.cmp g.met.D.SearchDistance.in_order _ _ _ (value c.self.inside.bound) c.in_ok-push.ensures.permutation short c.self.invariant.within;
      aside = c.self.invariant.aside;
    }

pub returns-in_ok-spill : goal.returns-in_ok-spill
returns-in_ok-spill g c =
    rw (← c.self.view_is) (IsPermutation-trans _ _ _ (pushed g.D.SearchDistance.value g.D.Ord.cmp g.met.D.SearchDistance.in_order _ _ _ c.self.inside.piles.items c.in_ok-push.ensures.permutation) c.in_ok-spill.ensures)

pub returns-else-len-self : goal.returns-else-len-self
returns-else-len-self g c = rw (← c.self.view_is) (pushed g.D.SearchDistance.value g.D.Ord.cmp g.met.D.SearchDistance.in_order _ _ _ c.self.inside.piles.items c.in_ok-push.ensures.permutation)
