use Rattle.std.proofs.{Common.{◌≡◌, arith}, lemmas.Option.{get_or_from_slice_get, slice_get_within}}
use Rattle.dimacs_network.specs.Arcs.{arc_at, no_arc}
use Rattle.dimacs_judging.proofs.RowLemmas.{arc_clear_end, arc_clear_more, arc_first}
use Rattle.dimacs_decide.proofs.distances.arcs_hold.Goals as goal

pub returns-in-Some : goal.returns-in-Some
returns-in-Some g c =
    let arcs = g.N.Network.list c.args.network.now in
    let is : arc_at arcs c.loop-i.i ≡ c.arc.result = get_or_from_slice_get arcs c.loop-i.i c.arc.result no_arc c.arc.ensures in
    arc_first arcs _ c.loop-i.i _ (slice_get_within arcs c.loop-i.i c.arc.result c.arc.ensures) c.loop-i.invariant (rw is c.in-Some.ensures)

pub loop-i-preserved : goal.loop-i-preserved
loop-i-preserved g c =
    let arcs = g.N.Network.list c.args.network.now in
    let is : arc_at arcs c.loop-i.i ≡ c.arc.result = get_or_from_slice_get arcs c.loop-i.i c.arc.result no_arc c.arc.ensures in
    arc_clear_more arcs _ c.loop-i.i c.loop-i.invariant (rw is c.in_default.ensures)

pub returns : goal.returns
returns g c = arc_clear_end (g.N.Network.list c.args.network.now) _ c.loop-i.i (omega (arith, c.arcs-i-end.ensures)) c.loop-i.invariant
