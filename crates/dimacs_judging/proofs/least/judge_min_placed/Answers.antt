use Rattle.std.proofs.{Common.{rules, refl}, lemmas.Int.{to_z-of_z}, lemmas.Slice.Zip.{AllZip-long}}
use Rattle.std.specs.Int.{w128}
use Rattle.dimacs_judging.specs.MinJudge.{min_claim_rows}
use Rattle.dimacs_judging.proofs.MinJudge.{min_judged, claim_refused, nodes_refused, slack_refused, min_passed}
use Rattle.dimacs_judging.proofs.Settling.{refuted_refuses}
use Rattle.dimacs_judging.proofs.least.judge_min_placed.Goals as goal

pub returns-in_err-flow : goal.returns-in_err-flow
returns-in_err-flow g c = λ s is.
    let i = c.args.instance.now in
    let first = refuted_refuses _ (min_claim_rows i s) _ (c.in_err-flow.ensures.refuted s is) in
    min_judged i s c.args.potentials.now _ (claim_refused i s c.args.potentials.now _ first) _ c.from_residual.ensures.1

pub returns-in_err-nodes_agree : goal.returns-in_err-nodes_agree
returns-in_err-nodes_agree g c = λ s is.
    let outcome = rw (c.nodes.ensures, c.network-network.ensures.nodes, c.nodes-2.ensures.nodes) at c.in_err-nodes_agree.ensures in
    min_judged _ s c.args.potentials.now _ (nodes_refused _ s c.args.potentials.now c.in_ok-flow.flow.now (c.in_ok-flow.ensures.claim s is) _ _ outcome) _ c.from_residual-in_err-nodes_agree.ensures.1

pub slack_tests-requires : goal.slack_tests-requires
slack_tests-requires g c = AllZip-long _ c.args.instance.now.arcs c.in_ok-flow.flow.now c.in_ok-flow.ensures.feasible.within

pub returns-in_err-slack_tests : goal.returns-in_err-slack_tests
returns-in_err-slack_tests g c = λ s is.
    let same_nodes = rw (c.nodes.ensures, c.network-network.ensures.nodes, c.nodes-2.ensures.nodes) at c.in_ok-nodes_agree.ensures in
    min_judged _ s c.args.potentials.now _ (slack_refused _ s c.args.potentials.now c.in_ok-flow.flow.now (c.in_ok-flow.ensures.claim s is) same_nodes _ _ c.in_err-slack_tests.ensures.0) _ c.from_residual-in_err-slack_tests.ensures.1

pub returns : goal.returns
returns g c = λ s is.
    let same_nodes = rw (c.nodes.ensures, c.network-network.ensures.nodes, c.nodes-2.ensures.nodes) at c.in_ok-nodes_agree.ensures in
    let passed = min_passed c.args.instance.now s c.args.potentials.now c.in_ok-flow.flow.now (c.in_ok-flow.ensures.claim s is) same_nodes c.network-network.ensures.lawful c.in_ok-slack_tests.ensures in
    (passed.0, passed.1, rw (to_z-of_z w128 c.args.placed.now.value (search rules), is.value_is) refl)
