use Rattle.std.proofs.Common.{arith}
use Rattle.dimacs_decide.specs.Bounds.{KeepsBounds}
use Rattle.dimacs_judging.specs.Optimum.{Least}
use Rattle.dimacs_solve.specs.Descending.{IsBetter}
use Rattle.dimacs_solve.proofs.DescendingLemmas.{first_step, next_step, out_of_steps}
use Rattle.dimacs_solve.proofs.descend.descend_by_steps.Goals as goal

pub loop-step-init : goal.loop-step-init
loop-step-init g c = first_step c.args.instance.now c.in_ok-flow.flow c.network-network.ensures.lawful (rw c.network-network.ensures.arcs at c.in_ok-flow.ensures)

pub loop-step-preserved : goal.loop-step-preserved
loop-step-preserved g c =
    let i = c.args.instance.now in
    let x = c.loop-step.flow in
    let outcome : (¬ Least i x) × KeepsBounds i.arcs c.in-Better.better × IsBetter i x c.in-Better.better = rw c.in-Better.is at c.in_ok-slack.ensures in
    next_step i c.loop-step._step x c.in-Better.better c.loop-step.invariant outcome.0 outcome.1 outcome.2

pub returns : goal.returns
returns g c =
    let i = c.args.instance.now in
    let x = c.loop-step.flow in
    let outcome : (¬ Least i x) × KeepsBounds i.arcs c.in-Better-2._better × IsBetter i x c.in-Better-2._better = rw c.in-Better-2.is at c.in_ok-slack-2.ensures in
    out_of_steps i c.loop-step._step c.args.limit x (omega (arith, c.loop-step-test.false, c.loop-step.auto._step-end)) c.loop-step.invariant outcome.0
