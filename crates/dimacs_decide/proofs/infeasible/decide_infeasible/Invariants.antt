use Rattle.dimacs_instance.specs.MinFlows.{positive_part}
use Rattle.dimacs_decide.specs.{Bounds.{KeepsBounds}, FeasibilityDecision.{total_excess}}
use Rattle.dimacs_decide.proofs.infeasible.decide_infeasible.Given as goal

abbrev pub invariant-loop-flow : goal.invariant-loop-flow
invariant-loop-flow g l = KeepsBounds l.instance.arcs l.flow

-- each flow leaves less excess
abbrev pub decreases-loop-flow : goal.decreases-loop-flow
decreases-loop-flow g l = positive_part (total_excess l.instance l.flow)
