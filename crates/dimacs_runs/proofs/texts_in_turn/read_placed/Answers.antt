use Rattle.std.proofs.{Common.{inr}, lemmas.Result.{err_from_is_err_and}}
use Rattle.dimacs_runs.proofs.texts_in_turn.read_placed.Goals as goal

pub returns-in_err-certificate-clause-reads : goal.returns-in_err-certificate-clause-reads
returns-in_err-certificate-clause-reads g c = λ a b first second.
    let (ended, is, same) = err_from_is_err_and c.from_residual-in_err-certificate.result c.from_residual-in_err-certificate.ensures.1 in
    let (s, placed, read) = c.in_ok-placed.ensures.reads a first in
    rw (is, same) (inr (s, read, c.in_err-certificate.ensures.reads b second))

-- the solution has no fault
pub returns-in_err-certificate-clause-stops_at_first : goal.returns-in_err-certificate-clause-stops_at_first
returns-in_err-certificate-clause-stops_at_first g c = λ has. let (s, placed, read) = c.in_ok-placed.ensures.reads has.0 has.4 in absurd (read.2 has.1 has.2 has.3 has.5)

pub returns-clause-stops_at_first : goal.returns-clause-stops_at_first
returns-clause-stops_at_first g c = λ has. let (s, placed, read) = c.in_ok-placed.ensures.reads has.0 has.4 in absurd (read.2 has.1 has.2 has.3 has.5)
