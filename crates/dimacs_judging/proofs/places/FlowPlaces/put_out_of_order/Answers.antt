use Rattle.std.proofs.Common.{◌≡◌, ◌<◌, length, true, w64, SFits, rules, arith, ap, sym, subst, ◌∙◌}
use Rattle.std.proofs.lemmas.Int.{to_z-of_z}
use Rattle.dimacs_judging.specs.{Places.{PlacesValue, HavePlaced}, inside.Places.{left_order}}
use Rattle.dimacs_judging.proofs.PlaceLemmas.{placed_in_any_order, placed_searched, found_placed}
use Rattle.dimacs_judging.proofs.places.FlowPlaces.put_out_of_order.Goals as goal

pub returns-in-Some-clause-puts : goal.returns-in-Some-clause-puts
returns-in-Some-clause-puts g c =
    let fits : SFits w64 c.args.entry.flow = search rules in
    let e = c.args.entry in
    let first = c.in-Some.first in
    let kept = c.self.view_is ∙ c.next_first.ensures.unchanged in
    let same = kept ∙ c.leave_order.ensures in
    let is = rw (← kept) at c.in-Some.ensures.first in
    let left : c.self.inside.out_of_order ≡ true = ap (λ (q : PlacesValue). q.out_of_order) same in
    let room : first < length c.self.inside.counts.items = omega (arith, is.0.0, c.self.invariant.0.counts left) in
    rw (c.set.ensures, to_z-of_z w64 e.flow fits) (λ before placed.
    let now = subst (λ (q : PlacesValue). HavePlaced q before) (sym same) (placed_in_any_order c.args.self.now before e placed) in
    found_placed _ before e now left first 0 first is.0 (sym is.1) is.0 room)

pub returns-clause-puts : goal.returns-clause-puts
returns-clause-puts g c = λ before placed.
    let p = c.args.self.now in
    let e = c.args.entry in
    let now = placed_searched (left_order p) before e (placed_in_any_order p before e placed) in
    rw (c.search.ensures, c.next_first.ensures.unchanged, c.leave_order.ensures) at (c.put_by_search.ensures.puts before (rw (c.search.ensures, c.next_first.ensures.unchanged, c.leave_order.ensures) now))
