use Rattle.std.proofs.{Common.{IsTrue, false, refl, arith}, lemmas.Int.{to_z-of_z}}
use Rattle.std.specs.Int.{w128}
use Rattle.dimacs_judging.proofs.SupportLemmas.{none_more, none_left, few_between, arc_found}
use Rattle.dimacs_judging.proofs.labels.has_arc_of_weight.Goals as goal

pub returns-in_default : goal.returns-in_default
returns-in_default g c =
    let none = rw (to_z-of_z w128 c.args.base c.ranges.base) at c.loop-k.invariant in
    (λ outcome. absurd (let f : IsTrue false = outcome in cc), λ has. absurd (none_left _ c.args.label c.args.base c.loop-k.k c.in_default.ensures none has))

pub returns-then-is_tight : goal.returns-then-is_tight
returns-then-is_tight g c =
    let made = rw (to_z-of_z w128 c.args.base c.ranges.base) at (c.if-is_tight.ensures.0 refl) in
    (λ outcome. arc_found _ c.args.label c.args.base c.loop-k.k c.in-Some.i c.arc.result c.arc.ensures c.in-Some.ensures made, λ has. refl)

pub loop-k-preserved : goal.loop-k-preserved
loop-k-preserved g c =
    let none = rw (to_z-of_z w128 c.args.base c.ranges.base) at c.loop-k.invariant in
    let off = rw (to_z-of_z w128 c.args.base c.ranges.base) at c.if-is_tight.ensures.1 in
    rw (to_z-of_z w128 c.args.base c.ranges.base) (none_more _ c.args.label c.args.base c.loop-k.k c.in-Some.i c.arc.result c.arc.ensures c.in-Some.ensures (λ adds. let f : IsTrue false = off adds in cc) none)

pub returns : goal.returns
returns g c =
    let none = rw (to_z-of_z w128 c.args.base c.ranges.base) at c.loop-k.invariant in (
      λ outcome. absurd (let f : IsTrue false = outcome in cc),
      λ has. absurd (none_left _ c.args.label c.args.base c.loop-k.k (few_between (g.N.Network.list c.args.network.now) c.args.label c.args.base c.loop-k.k (omega (arith, c.arcs-k-end.ensures))) none has),
    )
