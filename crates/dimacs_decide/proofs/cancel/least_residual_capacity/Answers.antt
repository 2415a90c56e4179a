use Rattle.std.proofs.{Common.{rules, arith, w64}, lemmas.Int.{ints, to_z-of_z}}
use Rattle.dimacs_decide.proofs.CancelLemmas.{inside, residual_capacity_more, residual_capacity_none}
use Rattle.dimacs_decide.proofs.cancel.least_residual_capacity.Goals as goal

pub residual_capacity_from-residual_capacity-requires-clause-arc_index : goal.residual_capacity_from-residual_capacity-requires-clause-arc_index
residual_capacity_from-residual_capacity-requires-clause-arc_index g c = inside (g.N.Network.list c.args.network.now) c.args.flow.now c.args.cycle.now c.requires.cycle c.loop-j.j c.loop-j-test.true

pub loop-j-init : goal.loop-j-init
loop-j-init g c = residual_capacity_none (g.N.Network.list c.args.network.now) c.args.flow.now c.args.cycle.now _ (omega (arith, ints))

pub loop-j-preserved : goal.loop-j-preserved
loop-j-preserved g c =
    let arcs = g.N.Network.list c.args.network.now in
    let second = rw (to_z-of_z w64 c.residual_capacity_from-residual_capacity.result (search rules), c.residual_capacity_from-residual_capacity.ensures) at c.lesser-least.ensures.second in
    let some = rw (to_z-of_z w64 c.residual_capacity_from-residual_capacity.result (search rules), c.residual_capacity_from-residual_capacity.ensures) at c.lesser-least.ensures.positive in
    rw (to_z-of_z w64 c.lesser-least.result (search rules)) (residual_capacity_more arcs c.args.flow.now c.args.cycle.now c.requires.cycle c.loop-j.j c.loop-j-test.true _ c.lesser-least.result c.loop-j.invariant c.lesser-least.ensures.first second some)
