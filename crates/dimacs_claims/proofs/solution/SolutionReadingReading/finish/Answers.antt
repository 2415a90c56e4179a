use Rattle.std.proofs.lemmas.Result.{err_from_is_err_and}
use Rattle.dimacs_records.specs.{declared.kinds.TextKind.TheVariants.{Solution}, Readings.{records_of}}
use Rattle.dimacs_records.proofs.OrderLemmas.{complete_by_records, end_refused_by_records}
use Rattle.dimacs_claims.proofs.SolutionLemmas.{end_context_by_records}
use Rattle.dimacs_claims.proofs.solution.SolutionReadingReading.finish.Goals as goal

pub returns-in_err-test_end-clause-refused : goal.returns-in_err-test_end-clause-refused
returns-in_err-test_end-clause-refused g c =
    let p = err_from_is_err_and c.from_residual.result c.from_residual.ensures.1 in
    let noted = rw c.context.ensures at c.in_err-test_end.ensures.first_fault in
    rw (p.1, p.2) (λ rs h. end_refused_by_records Solution _ (records_of rs) _ noted (end_context_by_records (g.P.Place.stands_for c.args.self.place) rs c.args.self.value h))

pub returns-clause-complete : goal.returns-clause-complete
returns-clause-complete g c = λ rs h.
    let passes = rw c.context.ensures at c.in_ok-test_end.ensures.passes in
    complete_by_records Solution _ (records_of rs) passes (end_context_by_records (g.P.Place.stands_for c.args.self.place) rs c.args.self.value h)
