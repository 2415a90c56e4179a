use Rattle.std.proofs.{Common.{◌∙◌, rules}, lemmas.Int.{to_z-of_z}, lemmas.Result.{err_from_is_err_and}}
use Rattle.std.specs.Int.{w128}
use Rattle.dimacs_judging.proofs.totals.value_if_feasible.Goals as goal

pub returns-in-Some : goal.returns-in-Some
returns-in-Some g c =
    let passed = c.in-Some.ensures in
    (to_z-of_z w128 c.in-Some.totals.balance (search rules) ∙ passed.balance_is, (passed.clear.0, (passed.clear.1.0, tt)))

pub returns-in_err-balances : goal.returns-in_err-balances
returns-in_err-balances g c =
    let p = err_from_is_err_and c.from_residual.result c.from_residual.ensures.1 in
    rw (p.1, p.2) c.in_err-balances.ensures

pub returns : goal.returns
returns g c =
    (to_z-of_z w128 c.of.result (search rules) ∙ (c.of.ensures ∙ c.in_ok-balances.ensures.0 c.args.source), c.in_ok-balances.ensures.1)
