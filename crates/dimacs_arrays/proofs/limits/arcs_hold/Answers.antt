use Rattle.std.proofs.{Common.{◌≡◌, ◌≤◌, length, arith}, lemmas.Option.{get_or_from_slice_get, slice_get_within}}
use Rattle.dimacs_network.specs.Arcs.{arc_at, no_arc}
use Rattle.dimacs_arrays.proofs.LimitLemmas.{all_in_range, first_past, one_more}
use Rattle.dimacs_arrays.proofs.limits.arcs_hold.Goals as goal

pub returns-in-Some : goal.returns-in-Some
returns-in-Some g c =
    let arcs = g.N.Network.list c.args.network.now in
    let is : arc_at arcs c.loop-i.i ≡ c.arc.result = get_or_from_slice_get arcs c.loop-i.i c.arc.result no_arc c.arc.ensures in
    let inside = slice_get_within arcs c.loop-i.i c.arc.result c.arc.ensures in
    first_past (g.N.Network.node_count c.args.network.now) arcs c.loop-i.i c.in-Some.reason inside c.loop-i.invariant (rw (is, ← c.nodes-nodes.ensures) c.in-Some.ensures.reason)

pub loop-i-preserved : goal.loop-i-preserved
loop-i-preserved g c =
    let arcs = g.N.Network.list c.args.network.now in
    let is : arc_at arcs c.loop-i.i ≡ c.arc.result = get_or_from_slice_get arcs c.loop-i.i c.arc.result no_arc c.arc.ensures in
    one_more (g.N.Network.node_count c.args.network.now) arcs c.loop-i.i c.loop-i.invariant (rw (is, ← c.nodes-nodes.ensures) c.in_default.ensures.in_range)

pub returns : goal.returns
returns g c =
    let arcs = g.N.Network.list c.args.network.now in
    let all : length arcs ≤ c.loop-i.i = omega (arith, c.loop-i-test.false, c.arcs-i-end.ensures) in
    all_in_range (g.N.Network.node_count c.args.network.now) arcs c.loop-i.i all c.loop-i.invariant
