use Rattle.std.proofs.{Common.{◌≡◌, ◌<◌, arith, heap_items, length, rules}, lemmas.List.Sorted.{IsPermutation-trans}}
use Rattle.dimacs_solve.proofs.{FrontierLemmas.{left_within, popped, popped_pile}, PileLemmas.{first_pile}}
use Rattle.dimacs_solve.proofs.frontier.Frontier.pop.Goals as goal

pub invariant_of-self : goal.invariant_of-self
invariant_of-self g c =
    let e = c.in-Some.ensures in
    record {
      heap = (e.heap_order c.self.invariant.heap).0;
      within = left_within g.D.SearchDistance.value g.D.Ord.cmp g.met.D.SearchDistance.in_order _ _ c.in-Some.field-0 _ e.permutation c.self.invariant.within;
      aside = c.self.invariant.aside;
    }

pub returns-in-Some : goal.returns-in-Some
returns-in-Some g c =
    let e = c.in-Some.ensures in
    rw (← c.self.view_is) (popped g.D.SearchDistance.value g.D.Ord.cmp g.met.D.SearchDistance.in_order _ _ c.in-Some.field-0 _ c.self.inside.piles.items e.permutation (e.below_top c.self.invariant.heap) c.self.invariant.within c.self.invariant.aside)

pub invariant_of-self-2 : goal.invariant_of-self-2
invariant_of-self-2 g c =
    let value = g.D.SearchDistance.value in
    let e = c.in_ok-walk.ensures in
    let some : 0 < length c.self.inside.piles.items = search rules in
    let first = first_pile value (value c.self.inside.bound) c.self.inside.piles.items c.remove-pile.result some c.remove-pile.ensures.value c.self.invariant.aside in
    record {
      heap = (e.heap_order c.from.ensures.2).0;
      within = left_within value g.D.Ord.cmp g.met.D.SearchDistance.in_order c.remove-pile.result.walks.items _ c.in_ok-walk.field-0 (value c.remove-pile.result.ceiling) (IsPermutation-trans _ _ _ c.from.ensures.1 e.permutation) first.0.within;
      aside = rw c.remove-pile.ensures.items first.1;
    }

pub returns : goal.returns
returns g c =
    let value = g.D.SearchDistance.value in
    let e = c.in_ok-walk.ensures in
    let some : 0 < length c.self.inside.piles.items = search rules in
    let none : length (heap_items c.self.inside.near) ≡ 0 = omega (arith, c.in_default.ensures.none, c.self.inside.near.data.ok) in
    rw (← c.self.view_is) (popped_pile value g.D.Ord.cmp g.met.D.SearchDistance.in_order (heap_items c.self.inside.near) (heap_items c.from.result) (heap_items c.pop-2.new.self) c.in_ok-walk.field-0 (value c.self.inside.bound) c.self.inside.piles.items c.remove-pile.new.self.items c.remove-pile.result
    none some c.remove-pile.ensures.value c.remove-pile.ensures.items c.self.invariant.aside c.from.ensures.1 e.permutation (e.below_top c.from.ensures.2))
