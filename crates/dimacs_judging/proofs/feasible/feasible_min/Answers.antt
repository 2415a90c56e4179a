use Rattle.dimacs_judging.specs.FlowTests.{feasible_min_rows, min_demand}
use Rattle.dimacs_judging.proofs.{Passing.{feasible_min_holds, feasible_min_clear}, Settling.{error_settles}}
use Rattle.dimacs_judging.proofs.Reasons.{bound_one_way, balance_one_way}
use Rattle.dimacs_judging.proofs.feasible.feasible_min.Goals as goal

pub returns-in_err-balances_if_feasible : goal.returns-in_err-balances_if_feasible
returns-in_err-balances_if_feasible g c =
    let i = c.args.instance.now in
    let outcome = rw (c.network.ensures.nodes, c.network.ensures.arcs) at c.in_err-balances_if_feasible.ensures in
    error_settles _ (feasible_min_rows i _) (bound_one_way i.arcs _, (balance_one_way i.nodes i.arcs (min_demand i) _, tt)) (λ done holds. feasible_min_clear i _ holds) c.in_err-balances_if_feasible.field-0.0 outcome _ c.from_residual.ensures.1

pub returns : goal.returns
returns g c =
    let outcome = rw (c.network.ensures.nodes, c.network.ensures.arcs) at c.in_ok-balances_if_feasible.ensures in
    feasible_min_holds c.args.instance.now c.args.flow.now c.requires outcome.1
