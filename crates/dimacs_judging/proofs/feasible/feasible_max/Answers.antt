use Rattle.dimacs_judging.specs.FlowTests.{feasible_max_rows, max_demand}
use Rattle.dimacs_judging.proofs.{Passing.{feasible_max_holds, feasible_max_clear}, Settling.{error_settles}}
use Rattle.dimacs_judging.proofs.Reasons.{bound_one_way, balance_one_way}
use Rattle.dimacs_judging.proofs.feasible.feasible_max.Goals as goal

pub returns-in_err-balances_if_feasible : goal.returns-in_err-balances_if_feasible
returns-in_err-balances_if_feasible g c =
    let i = c.args.instance.now in
    let outcome = rw (c.network.ensures.nodes, c.network.ensures.arcs) at c.in_err-balances_if_feasible.ensures in
    error_settles _ (feasible_max_rows i _) (bound_one_way i.arcs _, (balance_one_way i.nodes i.arcs (max_demand i) _, tt)) (λ done holds. feasible_max_clear i _ c.network.ensures.lawful holds) c.in_err-balances_if_feasible.field-0.0 outcome _ c.from_residual.ensures.1

pub returns : goal.returns
returns g c =
    let outcome = rw (c.network.ensures.nodes, c.network.ensures.arcs) at c.in_ok-balances_if_feasible.ensures in
    feasible_max_holds c.args.instance.now c.args.flow.now c.network.ensures.lawful c.requires outcome.1
