use Rattle.dimacs_records.specs.declared.kinds.TextKind.TheVariants as kinds
use Rattle.dimacs_instance.specs.{Graph.{GivesGraph}, QueryTexts.{GivesQueries, asked}}
use Rattle.dimacs_runs.specs.{Solved.{FindsPaths}, inside.Outcomes.{outcome_of}, inside.Judgings.{text_of}}
use Rattle.dimacs_runs.proofs.{SolvingLemmas.{counts_none}, TextLemmas.{solving, two_end, two_stop}}
use Rattle.dimacs_runs.proofs.solve.solve_labels.Goals as goal

-- the texts were read, and the solver answered
pub returns-clause-solves : goal.returns-clause-solves
returns-clause-solves g c = λ a b first second.
    let read = c.in_ok-graph.ensures.reads a b first second in
    two_end solving (text_of kinds.Graph GivesGraph a) (text_of kinds.Queries GivesQueries b) (λ g q. FindsPaths g q) c.in_ok-graph.graph (asked c.in_ok-graph.queries) (outcome_of c.label.result) read.0 read.1 c.label.ensures.solves

pub returns-clause-faults : goal.returns-clause-faults
returns-clause-faults g c = counts_none (outcome_of c.label.result) _ _ c.label.ensures.no_device c.in_ok-graph.ensures.faults

-- a text could not be read
pub returns-in_err-graph-clause-solves : goal.returns-in_err-graph-clause-solves
returns-in_err-graph-clause-solves g c = λ a b first second.
    two_stop solving (text_of kinds.Graph GivesGraph a) (text_of kinds.Queries GivesQueries b) (λ g q. FindsPaths g q) _ c.from_residual.result c.from_residual.ensures.1 (c.in_err-graph.ensures.reads a b first second)
