use Rattle.dimacs_solve.proofs.DescendingLemmas.{IsAtStep}
use Rattle.dimacs_solve.proofs.descend.descend_by_steps.Given as goal

abbrev pub invariant-loop-step : goal.invariant-loop-step
invariant-loop-step g l = IsAtStep l.instance l._step l.flow
