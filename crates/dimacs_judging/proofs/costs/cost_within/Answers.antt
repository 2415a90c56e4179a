use Rattle.std.proofs.{Common.{rules, ◌≤◌, length, refl, arith, w64, SFits}, lemmas.Int.{ints, to_z-of_z}}
use Rattle.std.proofs.{lemmas.List.{take_all}, lemmas.Option.{slice_get_within}}
use Rattle.std.specs.Int.{w128}
use Rattle.dimacs_judging.proofs.{RowLemmas.{arc_clear_end}, StepLemmas.{cost_step, cost_clear_more, cost_first}}
use Rattle.dimacs_judging.proofs.costs.cost_within.Goals as goal

pub loop-i-preserved : goal.loop-i-preserved
loop-i-preserved g c =
    let fits_amount : SFits w64 c.amount.result = search rules in
    let fits_cost : SFits w64 c.arc.result.cost = search rules in
    let next_is = simp to_z-of_z at c.in-Some.ensures in
    let value = cost_step _ _ c.loop-i.i c.arc.result c.amount.result _ _ c.arc.ensures c.amount.ensures c.loop-i.invariant.value next_is.0 in
    let fits : SFits w128 c.in-Some.next = omega (arith, ints) in
    record {
      value = simp to_z-of_z value;
      wide = simp to_z-of_z next_is.1;
      clear = cost_clear_more _ _ c.loop-i.i c.in-Some.next c.loop-i.invariant.clear value next_is.1;
    }

pub returns-in_default : goal.returns-in_default
returns-in_default g c =
    let fits_amount : SFits w64 c.amount.result = search rules in
    let fits_cost : SFits w64 c.arc.result.cost = search rules in
    let off = simp to_z-of_z at c.in_default.ensures in
    cost_first _ _ c.loop-i.i _ (slice_get_within _ _ _ c.arc.ensures) c.loop-i.invariant.clear (cost_step _ _ c.loop-i.i c.arc.result c.amount.result _ _ c.arc.ensures c.amount.ensures c.loop-i.invariant.value refl) off

pub returns : goal.returns
returns g c =
    let all : length (g.N.Network.list c.args.network.now) ≤ c.loop-i.i = omega (arith, c.arcs-i-end.ensures) in
    (rw (take_all _ (g.N.Network.list c.args.network.now) all, take_all c.loop-i.i c.args.flow.now (omega (arith, all, c.requires.one_each))) at c.loop-i.invariant.value, arc_clear_end _ _ c.loop-i.i all c.loop-i.invariant.clear)
