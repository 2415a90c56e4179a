use Rattle.std.proofs.{Common.{◌∙◌, ap, rules}, lemmas.Int.{to_z-of_z}}
use Rattle.std.specs.Int.{w128}
use Rattle.dimacs_judging.specs.{declared.verdict.Verdict.TheVariants.{Max}, Cuts.{members}}
use Rattle.dimacs_judging.proofs.FlowJudges.{max_infeasible, max_passed, max_shown, max_untight}
use Rattle.dimacs_judging.proofs.flow_judges.judge_max_flow.Goals as goal

pub returns-in-Some : goal.returns-in-Some
returns-in-Some g c =
    let passed = max_shown c.args.instance.now c.network-network.ensures.lawful c.args.flow.now (members c.args.cut.now) c.in-Some.ensures.1 in
    (passed.0, passed.1, ap Max (to_z-of_z w128 c.in-Some.value (search rules) ∙ c.in-Some.ensures.0))

pub returns-in_err-value : goal.returns-in_err-value
returns-in_err-value g c =
    let outcome = rw (c.network-network.ensures.nodes, c.network-network.ensures.arcs) at c.in_err-value.ensures in
    max_infeasible c.args.instance.now c.network-network.ensures.lawful c.args.flow.now (members c.args.cut.now) _ outcome _ c.from_residual.ensures.1

pub returns-in_err-cut_tests : goal.returns-in_err-cut_tests
returns-in_err-cut_tests g c =
    let total = rw (c.network-network.ensures.nodes, c.network-network.ensures.arcs, c.source.ensures) at c.in_ok-value.ensures in
    max_untight c.args.instance.now c.network-network.ensures.lawful c.args.flow.now (members c.args.cut.now) c.requires total.1 _ _ c.in_err-cut_tests.ensures.0 _ c.from_residual-in_err-cut_tests.ensures.1

pub returns : goal.returns
returns g c =
    let total = rw (c.network-network.ensures.nodes, c.network-network.ensures.arcs, c.source.ensures) at c.in_ok-value.ensures in
    let passed = max_passed c.args.instance.now c.network-network.ensures.lawful c.args.flow.now (members c.args.cut.now) c.requires total.1 c.in_ok-cut_tests.ensures in
    (passed.0, passed.1, ap Max (to_z-of_z w128 c.in_ok-value.value (search rules) ∙ total.0))
