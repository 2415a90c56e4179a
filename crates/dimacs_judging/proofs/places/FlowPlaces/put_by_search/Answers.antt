use Rattle.std.proofs.{Common.{◌≡◌, ◌<◌, [], length, true, w64, rules, arith}, lemmas.Int.{to_z-of_z}}
use Rattle.std.proofs.lemmas.List.Sums.{count_by-le-length}
use Rattle.dimacs_network.specs.Arcs.{joins}
use Rattle.dimacs_judging.proofs.PlaceLemmas.{found_among, none_left, found_placed}
use Rattle.dimacs_judging.proofs.places.FlowPlaces.put_by_search.Goals as goal

pub returns-in_default-kth-clause-puts : goal.returns-in_default-kth-clause-puts
returns-in_default-kth-clause-puts g c = λ before placed.
    (placed.clear, none_left c.args.self.now before c.args.entry placed c.in-Some.first c.placed_count-count.result c.in-Some.ensures c.placed_count-count.ensures c.in_default-kth.ensures)

pub overflow_add-count : goal.overflow_add-count
overflow_add-count g c =
    let arcs = g.N.Network.list c.self.inside.network.now in
    let fewer = found_among arcs [] c.args.entry c.placed_count-count.result c.in-Some-kth.arc (rw (← c.self.view_is) at c.in-Some-kth.ensures) in
    omega (arith, fewer, count_by-le-length (joins c.args.entry.tail c.args.entry.head) arcs, c.self.invariant.0.arc_limit)

pub returns-clause-puts : goal.returns-clause-puts
returns-clause-puts g c =
    let found = rw (← c.self.view_is) at c.in-Some-kth.ensures in
    let count = rw (← c.self.view_is) at c.placed_count-count.ensures in
    let searched : c.self.inside.out_of_order ≡ true = rw (← c.self.view_is) at c.requires.out_of_order in
    let first = rw (← c.self.view_is) at c.in-Some.ensures in
    let room : c.in-Some.first < length c.self.inside.counts.items = omega (arith, first.0, c.self.invariant.0.counts searched) in
    rw (← c.self.view_is, c.set.ensures, to_z-of_z w64 c.args.entry.flow (search rules)) (λ before placed. found_placed _ before c.args.entry placed searched c.in-Some.first c.placed_count-count.result c.in-Some-kth.arc first count found room)
