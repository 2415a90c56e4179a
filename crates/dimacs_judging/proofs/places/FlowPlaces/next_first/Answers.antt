use Rattle.std.proofs.{Common.{◌≡◌, ◌<◌, ◌≤◌, true, length, get_or, arith}, lemmas.List.{get_or_read}}
use Rattle.dimacs_judging.specs.inside.ArcChains.{IsFirstBetween}
use Rattle.dimacs_judging.proofs.PlaceLemmas.{none_placed_between}
use Rattle.dimacs_judging.proofs.places.FlowPlaces.next_first.Goals as goal

pub returns-clause-first : goal.returns-clause-first
returns-clause-first g c =
    let p = c.args.self.now in
    let e = c.args.entry in
    let arc = c.in_ok-first-in-Some.first in
    let found : IsFirstBetween p.arcs e.tail e.head arc = rw (← c.self.view_is) c.in_ok-first-in-Some.ensures.first in
    let out : c.self.inside.out_of_order ≡ true = rw (← c.self.view_is) at c.requires in
    let counts = c.self.inside.counts.items in
    let inside : arc < length counts = omega (arith, c.in_ok-first-in-Some.ensures.first.0, c.self.invariant.0.counts out) in
    let read = get_or_read counts arc c.index.result.now inside c.index.ensures 0 in
    let none : get_or counts arc 0 ≡ 0 = omega (arith, read, c.if-index-gt0.false) in
    let uncounted : get_or p.counts arc 0 ≡ 0 = rw (← c.self.view_is) none in
    let after : p.in_order ≤ arc = rw (← c.self.view_is) c.if-first-self.false in
    (found, none_placed_between p e.tail e.head arc found after uncounted)
