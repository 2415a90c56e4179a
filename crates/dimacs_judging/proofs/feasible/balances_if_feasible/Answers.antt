use Rattle.std.proofs.{Common.{inr, inl}, lemmas.Result.{err_from_is_err_and}}
use Rattle.dimacs_judging.proofs.feasible.balances_if_feasible.Goals as goal

pub returns-in_err-balances_hold : goal.returns-in_err-balances_hold
returns-in_err-balances_hold g c =
    let p = err_from_is_err_and c.from_residual-in_err-balances_hold.result c.from_residual-in_err-balances_hold.ensures.1 in
    rw (p.1, p.2) (inr (c.in_ok-bounds_hold.ensures, inl (c.in_err-balances_hold.ensures c.args.flow.now c.in_ok-balances.ensures)))
