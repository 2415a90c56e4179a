use Rattle.std.proofs.lemmas.Result.{err_from_is_err_and}
use Rattle.dimacs_records.proofs.driver.take_held.Goals as goal

pub returns-in_err-taken-clause-reads : goal.returns-in_err-taken-clause-reads
returns-in_err-taken-clause-reads g c = λ all coming h.
    let p = err_from_is_err_and c.from_residual.result c.from_residual.ensures.1 in
    rw (p.1, p.2) (c.in_err-taken.ensures.takes all coming (rw (c.given-2.ensures, c.ahead.ensures.held) h))
