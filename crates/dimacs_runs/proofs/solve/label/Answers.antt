use Rattle.std.proofs.lemmas.Result.{err_from_is_err_and}
use Rattle.dimacs_instance.specs.QueryTexts.{asked}
use Rattle.dimacs_runs.proofs.SolvingLemmas.{error_ends}
use Rattle.dimacs_runs.proofs.solve.label.Goals as goal

pub returns-in_err-labels-clause-solves : goal.returns-in_err-labels-clause-solves
returns-in_err-labels-clause-solves g c =
    let (stop, is, same) = err_from_is_err_and c.from_residual.result c.from_residual.ensures.1 in
    rw (is, same) (error_ends c.args.graph.now (asked c.args.queries.now) _ c.in_err-labels.ensures)
