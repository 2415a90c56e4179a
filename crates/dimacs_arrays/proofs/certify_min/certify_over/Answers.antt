use Rattle.std.proofs.{Common.{List, ℤ, subst, rules}, lemmas.Int.{to_z-of_z}}
use Rattle.std.specs.Int.{w128}
use Rattle.dimacs_judging.specs.{Feasible.{FeasibleMin}, FlowTests.{feasible_min_rows}, Tests.{Refutes}}
use Rattle.dimacs_decide.specs.{declared.least.MinDecision.{MinDecision}, MinDecision.{DecidesMin}}
use Rattle.dimacs_decide.specs.declared.least.MinDecision.TheVariants.{Optimal, Better}
use Rattle.dimacs_arrays.specs.inside.MinCertified.{IsLeastBy}
use Rattle.dimacs_arrays.proofs.CertifyLemmas.{min_better, min_costly, min_infeasible, min_least}
use Rattle.dimacs_arrays.proofs.certify_min.certify_over.Goals as goal

pub returns-in_err-feasible_min : goal.returns-in_err-feasible_min
returns-in_err-feasible_min g c =
    let i = c.args.instance.now in
    let outcome = subst (λ (y : List ℤ). Refutes (λ (done : Unit {0}). FeasibleMin i y) (feasible_min_rows i y) c.in_err-feasible_min.field-0.0) c.in_ok-flow.ensures c.in_err-feasible_min.ensures in
    min_infeasible i c.args.flows.now _ outcome _ c.from_residual-in_err-feasible_min.ensures.1

pub returns-in_err-cost : goal.returns-in_err-cost
returns-in_err-cost g c =
    let i = c.args.instance.now in
    let feasible = subst (λ (y : List ℤ). FeasibleMin i y) c.in_ok-flow.ensures c.in_ok-feasible_min.ensures in
    let costly = rw (c.network.ensures.arcs, c.in_ok-flow.ensures) at c.in_err-cost.ensures in
    min_costly i c.args.flows.now feasible _ _ costly _ c.from_residual-in_err-cost.ensures.1

pub returns-in-Better : goal.returns-in-Better
returns-in-Better g c =
    let i = c.args.instance.now in
    let feasible = subst (λ (y : List ℤ). FeasibleMin i y) c.in_ok-flow.ensures c.in_ok-feasible_min.ensures in
    let costs = rw (c.network.ensures.arcs, c.in_ok-flow.ensures) at c.in_ok-cost.ensures in
    let outcome = subst (λ (d : MinDecision). DecidesMin i c.in_ok-flow.flow d) c.in-Better.is c.in_ok-better.ensures in
    let decided = subst (λ (y : List ℤ). DecidesMin i y (Better c.in-Better.better)) c.in_ok-flow.ensures outcome in
    min_better i c.args.flows.now feasible costs.1 c.in-Better.better decided

pub returns : goal.returns
returns g c =
    let i = c.args.instance.now in
    let feasible = subst (λ (y : List ℤ). FeasibleMin i y) c.in_ok-flow.ensures c.in_ok-feasible_min.ensures in
    let costs = rw (c.network.ensures.arcs, c.in_ok-flow.ensures) at c.in_ok-cost.ensures in
    let potentials = c.in-Optimal.potentials in
    let outcome = subst (λ (d : MinDecision). DecidesMin i c.in_ok-flow.flow d) c.in-Optimal.is c.in_ok-better.ensures in
    let decided = subst (λ (y : List ℤ). DecidesMin i y (Optimal potentials)) c.in_ok-flow.ensures outcome in
    let least = c.in_ok-least_by-in-Optimal in
    let is = subst (λ (total : ℤ). IsLeastBy total potentials least.field-0) (to_z-of_z w128 c.in_ok-cost.cost (search rules)) least.ensures in
    min_least i c.args.flows.now feasible costs.1 c.network.ensures.lawful.joined c.in_ok-cost.cost potentials least.field-0 costs.0 decided is
