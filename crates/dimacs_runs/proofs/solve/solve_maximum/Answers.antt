use Rattle.dimacs_records.specs.declared.kinds.TextKind.TheVariants as kinds
use Rattle.dimacs_instance.specs.MaxTexts.{GivesMax}
use Rattle.dimacs_runs.specs.{Solved.{FindsMaximum}, inside.Judgings.{text_of}}
use Rattle.dimacs_runs.proofs.{SolvingLemmas.{maximum_ends}, TextLemmas.{solving, stop_ends, value_ends}}
use Rattle.dimacs_runs.proofs.solve.solve_maximum.Goals as goal

-- the instance was read, and the solver answered
pub returns-clause-solves : goal.returns-clause-solves
returns-clause-solves g c = λ a coming.
    let i = c.in_ok-instance.instance in
    rw c.maximum_outcome.ensures.outcome (value_ends solving (text_of kinds.Max GivesMax a) (λ i. FindsMaximum i c.args.limit) i _ (c.in_ok-instance.ensures.reads a coming) (maximum_ends i c.args.limit c.solve_max.result c.solve_max.ensures (rw c.maximum_outcome.ensures.outcome at c.maximum_outcome.ensures.readable)))

-- the instance could not be read
pub returns-in_err-instance-clause-solves : goal.returns-in_err-instance-clause-solves
returns-in_err-instance-clause-solves g c = λ a coming.
    stop_ends solving (text_of kinds.Max GivesMax a) (λ i. FindsMaximum i c.args.limit) _ c.from_residual.result c.from_residual.ensures.1 (c.in_err-instance.ensures.reads a coming)
