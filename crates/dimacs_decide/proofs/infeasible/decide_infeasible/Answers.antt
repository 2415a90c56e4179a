use Rattle.std.proofs.Common.{◌<ℤ◌}
use Rattle.dimacs_judging.specs.Feasible.{FeasibleMin}
use Rattle.dimacs_decide.specs.{Bounds.{KeepsBounds}, FeasibilityDecision.{total_excess}}
use Rattle.dimacs_decide.proofs.InfeasibleLemmas.{falls}
use Rattle.dimacs_decide.proofs.infeasible.decide_infeasible.Goals as goal

pub loop-flow-smaller : goal.loop-flow-smaller
loop-flow-smaller g c =
    let i = c.args.instance.now in
    let x = c.loop-flow.flow in
    let y = c.in-LessExcess.nearer in
    let outcome : (¬ FeasibleMin i x) × KeepsBounds i.arcs y × (total_excess i y <ℤ total_excess i x) = rw c.in-LessExcess.is at c.in_ok-decide_feasible.ensures in
    falls i x y c.in_ok-flow-in-LessExcess.flow outcome.2 c.in_ok-flow-in-LessExcess.ensures.excess
