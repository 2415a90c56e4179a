use Rattle.std.proofs.{Common.{◌∙◌, ◌∷◌, [], inl, rules}, lemmas.Int.{to_z-of_z}, lemmas.Result.{err_from_is_err_and}}
use Rattle.std.specs.Int.{w128}
use Rattle.dimacs_judging.specs.FlowTests.{cost_row, feasible_rows}
use Rattle.dimacs_judging.proofs.{RowLists.{first_after}, Settling.{refused_in_front}}
use Rattle.dimacs_judging.proofs.totals.cost_if_feasible.Goals as goal

pub returns-in-Some : goal.returns-in-Some
returns-in-Some g c =
    let passed = c.in-Some.ensures in
    (to_z-of_z w128 c.in-Some.totals.cost (search rules) ∙ passed.cost_is, (passed.clear.0, (passed.clear.1.0, (passed.clear.1.1.0, tt))))

pub returns-in_err-balances_if_feasible : goal.returns-in_err-balances_if_feasible
returns-in_err-balances_if_feasible g c =
    let p = err_from_is_err_and c.from_residual.result c.from_residual.ensures.1 in
    let arcs = g.N.Network.list c.args.network.now in
    let rows = feasible_rows (g.N.Network.node_count c.args.network.now) arcs (g.D.Demands.demand c.args.demands.now) c.args.flow.now in
    rw (p.1, p.2) (refused_in_front rows (cost_row arcs c.args.flow.now ∷ []) _ c.in_err-balances_if_feasible.ensures)

pub returns-in_err-cost : goal.returns-in_err-cost
returns-in_err-cost g c =
    let p = err_from_is_err_and c.from_residual-in_err-cost.result c.from_residual-in_err-cost.ensures.1 in
    let arcs = g.N.Network.list c.args.network.now in
    let rows = feasible_rows (g.N.Network.node_count c.args.network.now) arcs (g.D.Demands.demand c.args.demands.now) c.args.flow.now in
    rw (p.1, p.2) (first_after rows (cost_row arcs c.args.flow.now ∷ []) _ _ c.in_ok-balances_if_feasible.ensures.1 (inl c.in_err-cost.ensures))

pub returns : goal.returns
returns g c =
    (to_z-of_z w128 c.in_ok-cost.cost (search rules) ∙ c.in_ok-cost.ensures.0, (c.in_ok-balances_if_feasible.ensures.1.0, (c.in_ok-balances_if_feasible.ensures.1.1.0, (c.in_ok-cost.ensures.1, tt))))
