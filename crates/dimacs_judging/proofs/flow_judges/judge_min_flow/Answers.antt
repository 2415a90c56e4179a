use Rattle.std.proofs.{Common.{◌∙◌, ap, rules}, lemmas.Int.{to_z-of_z}}
use Rattle.std.specs.Int.{w128}
use Rattle.dimacs_claims.specs.Potentials.{potential_of}
use Rattle.dimacs_judging.specs.declared.verdict.Verdict.TheVariants.{Min}
use Rattle.dimacs_judging.proofs.FlowJudges.{min_infeasible, min_passed, min_shown, min_unslack}
use Rattle.dimacs_judging.proofs.flow_judges.judge_min_flow.Goals as goal

pub returns-in-Some : goal.returns-in-Some
returns-in-Some g c =
    let passed = min_shown c.args.instance.now c.args.flow.now (potential_of c.args.potentials.now) c.network-network.ensures.lawful c.in-Some.ensures.1 in
    (passed.0, passed.1, ap Min (to_z-of_z w128 c.in-Some.cost (search rules) ∙ c.in-Some.ensures.0))

pub returns-in_err-cost : goal.returns-in_err-cost
returns-in_err-cost g c =
    let outcome = rw (c.network-network.ensures.nodes, c.network-network.ensures.arcs) at c.in_err-cost.ensures in
    min_infeasible c.args.instance.now c.args.flow.now (potential_of c.args.potentials.now) _ outcome _ c.from_residual.ensures.1

pub returns-in_err-slack_tests : goal.returns-in_err-slack_tests
returns-in_err-slack_tests g c =
    let total = rw (c.network-network.ensures.nodes, c.network-network.ensures.arcs) at c.in_ok-cost.ensures in
    min_unslack c.args.instance.now c.args.flow.now (potential_of c.args.potentials.now) c.requires total.1 _ _ c.in_err-slack_tests.ensures.0 _ c.from_residual-in_err-slack_tests.ensures.1

pub returns : goal.returns
returns g c =
    let total = rw (c.network-network.ensures.nodes, c.network-network.ensures.arcs) at c.in_ok-cost.ensures in
    let passed = min_passed c.args.instance.now c.args.flow.now (potential_of c.args.potentials.now) c.requires total.1 c.network-network.ensures.lawful c.in_ok-slack_tests.ensures in
    (passed.0, passed.1, ap Min (to_z-of_z w128 c.in_ok-cost.cost (search rules) ∙ total.0))
