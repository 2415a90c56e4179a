use Rattle.std.proofs.Common.{length, ap, arith}
use Rattle.dimacs_network.specs.Arcs.{joins}
use Rattle.dimacs_judging.specs.Places.{PlacesValue}
use Rattle.dimacs_judging.proofs.PlaceLemmas.{fewer_below, one_more_below, no_more_below}
use Rattle.dimacs_judging.proofs.places.FlowPlaces.arcs_below.Goals as goal

pub loop-k-init : goal.loop-k-init
loop-k-init g c = c.requires.has_arc

pub returns-in_default : goal.returns-in_default
returns-in_default g c =
    let below = fewer_below (joins c.args.entry.tail c.args.entry.head) c.args.self.now.arcs c.args.end c.in-Some.arc c.if-arc-end.false in
    omega (arith, below, c.loop-k.invariant, c.in-Some.ensures.2)

pub returns-in_default-2 : goal.returns-in_default-2
returns-in_default-2 g c =
    let below = no_more_below (joins c.args.entry.tail c.args.entry.head) c.args.self.now.arcs c.args.end in
    omega (arith, below.0, c.loop-k.invariant, c.in_default.ensures)

pub loop-k-preserved : goal.loop-k-preserved
loop-k-preserved g c = one_more_below _ c.args.entry.tail c.args.entry.head c.loop-k.k c.in-Some.arc c.args.end c.in-Some.ensures c.if-arc-end.true

pub returns : goal.returns
returns g c =
    let below = no_more_below (joins c.args.entry.tail c.args.entry.head) c.args.self.now.arcs c.args.end in
    let same = ap (λ (q : PlacesValue). length q.arcs) c.self.view_is in
    omega (arith, same, below.0, below.1, c.loop-k.invariant, c.loop-k-test.false, c.arcs.ensures, c.arcs-k-end.ensures, c.requires.has_arc, c.loop-k.auto.k-end, c.loop-k.auto.k)
