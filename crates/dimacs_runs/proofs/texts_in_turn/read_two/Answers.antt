use Rattle.std.proofs.{Common.{inl, inr}, lemmas.Result.{err_from_is_err_and}}
use Rattle.dimacs_runs.proofs.texts_in_turn.read_two.Goals as goal

pub returns-in_err-other-clause-reads : goal.returns-in_err-other-clause-reads
returns-in_err-other-clause-reads g c = λ a b first second.
    let (ended, is, same) = err_from_is_err_and c.from_residual-in_err-other.result c.from_residual-in_err-other.ensures.1 in
    rw (is, same) (inr (_, c.in_ok-value.ensures.reads a first, c.in_err-other.ensures.reads b second))

pub returns-in_err-value-clause-reads : goal.returns-in_err-value-clause-reads
returns-in_err-value-clause-reads g c = λ a b first second.
    let (ended, is, same) = err_from_is_err_and c.from_residual.result c.from_residual.ensures.1 in
    rw (is, same) (inl (c.in_err-value.ensures.reads a first))

pub returns-clause-reads : goal.returns-clause-reads
returns-clause-reads g c = λ a b first second. (c.in_ok-value.ensures.reads a first, c.in_ok-other.ensures.reads b second)
