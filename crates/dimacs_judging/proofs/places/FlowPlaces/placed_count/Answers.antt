use Rattle.std.proofs.{Common.{◌≡◌, ◌<◌, true, length, get_or, refl, arith}, lemmas.List.{get_or_read}}
use Rattle.dimacs_judging.proofs.PlaceLemmas.{none_below, some_below}
use Rattle.dimacs_judging.proofs.places.FlowPlaces.placed_count.Goals as goal

pub returns-then-self-first : goal.returns-then-self-first
returns-then-self-first g c =
    let arcs = g.N.Network.list c.self.inside.network.now in
    let found = rw (← c.self.view_is) at c.requires.first in
    let out : c.self.inside.out_of_order ≡ true = rw (← c.self.view_is) at c.requires.out_of_order in
    let counts = c.self.inside.counts.items in
    let inside : c.args.first < length counts = omega (arith, found.0, c.self.invariant.0.counts out) in
    let read = get_or_read counts c.args.first c.index-counted.result.now inside c.index-counted.ensures 0 in
    let zero : get_or counts c.args.first 0 ≡ 0 = omega (arith, read, c.if-counted-gt0.false) in
    rw (← c.self.view_is, zero, none_below arcs c.args.entry.tail c.args.entry.head c.args.first found c.self.inside.in_order c.if-self-first.true) refl

pub arcs_below-requires-clause-has_arc : goal.arcs_below-requires-clause-has_arc
arcs_below-requires-clause-has_arc g c = some_below c.args.self.now.arcs c.args.entry.tail c.args.entry.head c.args.first c.requires.first c.self.inside.in_order (omega (arith, c.if-self-first.false))
