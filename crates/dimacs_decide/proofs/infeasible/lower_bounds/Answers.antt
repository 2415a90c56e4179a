use Rattle.std.proofs.{Common.{◌≡◌, ◌∷◌, [], ◌<◌, length, take, refl, arith, rules, w64}, lemmas.Int.{to_z-of_z}}
use Rattle.std.proofs.{lemmas.List.{map-append, take_more}, lemmas.Option.{get_or_from_slice_get}}
use Rattle.dimacs_network.specs.{declared.network.ArcView.{ArcView}, Arcs.{arc_at, no_arc}}
use Rattle.dimacs_decide.proofs.infeasible.lower_bounds.Goals as goal

pub loop-i-preserved : goal.loop-i-preserved
loop-i-preserved g c =
    let arcs = g.N.Network.list c.args.network.now in
    let i = c.loop-i.i in
    let is : arc_at arcs i ≡ c.arc.result = get_or_from_slice_get arcs i c.arc.result no_arc c.arc.ensures in
    let inside : i < length arcs = omega (arith, c.loop-i-test.true, c.arcs-i-end.ensures) in
    rw (c.in_ok-push.ensures.items, take_more arcs i no_arc inside, map-append (λ (a : ArcView). a.low) (take i arcs) (arc_at arcs i ∷ []), c.loop-i.invariant, is, to_z-of_z w64 c.arc.result.low (search rules)) refl
