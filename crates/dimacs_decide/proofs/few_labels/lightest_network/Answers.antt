use Rattle.std.proofs.Common.{◌≡◌, ◌∙◌, ◌<◌, ◌≤◌, length, get_or, refl, ap, sym, subst, arith}
use Rattle.std.proofs.{lemmas.List.{get_or_default, map_more, take_all}, lemmas.Option.{get_or_from_slice_get}}
use Rattle.dimacs_network.specs.Arcs.{NetworkValue, arc_at, no_arc}
use Rattle.dimacs_judging.specs.LightestArcs.{AreCovering, arcs_in}
use Rattle.dimacs_decide.specs.inside.FewLabels.{AreLightest}
use Rattle.dimacs_decide.proofs.LightestLemmas.{covering_lightest}
use Rattle.dimacs_decide.proofs.few_labels.lightest_network.Goals as goal

pub loop-k-preserved : goal.loop-k-preserved
loop-k-preserved g c =
    let arcs = g.N.Network.list c.args.network.now in
    let order = c.in-Some.order.items in
    let k = c.loop-k.k in
    let inside : k < length order = omega (arith, c.loop-k-test.true, c.len-k-end.ensures) in
    let here : get_or order k 0 ≡ c.index.result.now = get_or_default order k 0 c.index.result.now inside ∙ sym c.index.ensures in
    let is : arc_at arcs (get_or order k 0) ≡ c.arc.result = ap (arc_at arcs) here ∙ get_or_from_slice_get arcs c.index.result.now c.arc.result no_arc c.arc.ensures in
    rw (c.in_ok-push.ensures.pushed, map_more (arc_at arcs) order k 0 inside, is, c.loop-k.invariant) refl

pub returns-clause-arcs : goal.returns-clause-arcs
returns-clause-arcs g c =
    let arcs = g.N.Network.list c.args.network.now in
    let order = c.in-Some.order.items in
    let covering : AreCovering arcs order = rw c.in-Some.is at c.in_ok-order.ensures.covering in
    let all : length order ≤ c.loop-k.k = omega (arith, c.loop-k-test.false, c.len-k-end.ensures) in
    let same : arcs_in arcs order ≡ c.loop-k.lightest.arcs = ap (arcs_in arcs) (sym (take_all c.loop-k.k order all)) ∙ sym (ap (λ (n : NetworkValue). n.arcs) c.loop-k.invariant) in
    subst (AreLightest arcs) same (covering_lightest arcs order covering)
