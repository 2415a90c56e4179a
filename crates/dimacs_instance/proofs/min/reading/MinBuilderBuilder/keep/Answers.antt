use Rattle.std.proofs.{Common.{◌≤◌, w64, SFits, rules, arith}, lemmas.Int.{to_z-of_z, ints}}
use Rattle.dimacs_network.specs.declared.network.ArcView.{ArcView}
use Rattle.dimacs_instance.specs.MinReading.{MinBegun}
use Rattle.dimacs_instance.proofs.MinLemmas.{arc_bounds, arc_joins, arc_room, law_after_push, law_after_set, names_one, node}
use Rattle.dimacs_instance.proofs.min.reading.MinBuilderBuilder.keep.Goals as goal

pub invariant_of-self-in-MinArc : goal.invariant_of-self-in-MinArc
invariant_of-self-in-MinArc g c =
    let arc = c.in-MinArc in
    let inside = c.self.inside in
    let b : MinBegun = record { nodes = inside.arcs.nodes; declared = inside.declared; supplies = inside.supplies; arcs = inside.arcs.arcs } in
    let low : SFits w64 arc.low = search rules in
    let cap : SFits w64 arc.cap = search rules in
    let cost : SFits w64 arc.cost = search rules in
    let tail : 1 ≤ arc.tail = search rules in
    let head : 1 ≤ arc.head = search rules in
    let a : ArcView = record { tail = arc.tail; head = arc.head; low = arc.low; cap = arc.cap; cost = arc.cost } in
    let passes = rw (arc.is, ← c.self.view_is) at c.requires.passes in
    let pushed = rw (to_z-of_z w64 arc.low low, to_z-of_z w64 arc.cap cap, to_z-of_z w64 arc.cost cost) at c.push.ensures.pushed in
    let bounds = arc_bounds b a passes (omega (arith, ints, cap), omega (arith, ints, cap)) (omega (arith, ints, cost), omega (arith, ints, cost)) in
    law_after_push b a c.push.new.self c.push.result pushed c.push.ensures.unchanged c.self.invariant (arc_joins b a passes tail head) bounds (arc_room b a passes)

pub invariant_of-self-in-MinNode : goal.invariant_of-self-in-MinNode
invariant_of-self-in-MinNode g c =
    let line = c.in-MinNode in
    let fits : SFits w64 line.supply = search rules in
    let least : 1 ≤ line.id = search rules in
    let passes = rw (line.is, ← c.self.view_is) at c.requires.passes in
    let set = rw (to_z-of_z w64 line.supply fits) at c.set.ensures.set in
    law_after_set _ line.id line.supply c.set.new.self c.set.result set c.set.ensures.unchanged c.self.invariant (node _ _ _ least passes) (omega (arith, ints, fits), omega (arith, ints, fits))

pub returns-in_ok-set-in-MinNode-clause-added : goal.returns-in_ok-set-in-MinNode-clause-added
returns-in_ok-set-in-MinNode-clause-added g c = λ rs h.
    let line = c.in-MinNode in
    let least : 1 ≤ line.id = search rules in
    let passes = rw (line.is, ← c.self.view_is) at c.requires.passes in
    rw (line.is, c.in_ok-set-in-MinNode.ensures.set, to_z-of_z w64 line.supply (search rules)) (names_one _ _ _ least passes rs (rw (← c.self.view_is) at h))
