use Rattle.std.proofs.{Common.{◌≡◌, inl, length, ap, ◌∙◌, rules}, lemmas.Int.{to_z-of_z}}
use Rattle.std.proofs.lemmas.Result.{err_from_is_err_and}
use Rattle.std.specs.Int.{w128}
use Rattle.dimacs_judging.specs.{MaxJudge.{max_claim_rows}, declared.verdict.JudgeError.TheVariants.{Refused}}
use Rattle.dimacs_judging.proofs.MaxJudge.{claim_clear, claim_holds, claim_one_way, flow_refused, value_refused}
use Rattle.dimacs_judging.proofs.{Passing.{feasible_max_holds}, Settling.{refusal_refutes}}
use Rattle.dimacs_judging.proofs.max_claim.max_claim_tests.Goals as goal

pub returns-in_err-flow-clause-refuted : goal.returns-in_err-flow-clause-refuted
returns-in_err-flow-clause-refuted g c =
    let p = err_from_is_err_and c.from_residual.result c.from_residual.ensures.1 in
    rw (p.1, p.2) (λ s is.
    let first = rw c.requires.network at (c.in_err-flow.ensures.first s.entries is.entries) in
    refusal_refutes _ (max_claim_rows _ s) (claim_one_way _ s) (claim_clear _ s c.network-network.ensures.lawful) (Refused c.in_err-flow.field-0.0.0 c.in_err-flow.field-0.0.1) (inl first))

pub returns-in_err-value-clause-refuted : goal.returns-in_err-value-clause-refuted
returns-in_err-value-clause-refuted g c =
    let p = err_from_is_err_and c.from_residual-in_err-value.result c.from_residual-in_err-value.ensures.1 in
    let outcome = rw (c.network-network.ensures.nodes, c.network-network.ensures.arcs) at c.in_err-value.ensures in
    rw (p.1, p.2) (λ s is.
    let carries = rw c.requires.network at (c.in_ok-flow.ensures.carried s.entries is.entries) in
    refusal_refutes _ (max_claim_rows _ s) (claim_one_way _ s) (claim_clear _ s c.network-network.ensures.lawful) _ (flow_refused _ s c.in_ok-flow.flow.now carries _ outcome))

pub returns-in_err-value_agrees-clause-refuted : goal.returns-in_err-value_agrees-clause-refuted
returns-in_err-value_agrees-clause-refuted g c =
    let p = err_from_is_err_and c.from_residual-in_err-value_agrees.result c.from_residual-in_err-value_agrees.ensures.1 in
    rw (p.1, p.2) (λ s is.
    let carries = rw c.requires.network at (c.in_ok-flow.ensures.carried s.entries is.entries) in
    let total = rw (c.network-network.ensures.nodes, c.network-network.ensures.arcs, c.source.ensures) at c.in_ok-value.ensures in
    let outcome = rw (to_z-of_z w128 c.in_ok-value.value (search rules), total.0, is.value_is, is.line_is) at c.in_err-value_agrees.ensures in
    refusal_refutes _ (max_claim_rows _ s) (claim_one_way _ s) (claim_clear _ s c.network-network.ensures.lawful) (Refused c.in_err-value_agrees.field-0.0.0 c.in_err-value_agrees.field-0.0.1) (value_refused _ s _ carries total.1 _ _ outcome))

pub returns-clause-claim : goal.returns-clause-claim
returns-clause-claim g c = λ s is.
    let carries = rw c.requires.network at (c.in_ok-flow.ensures.carried s.entries is.entries) in
    let total = rw (c.network-network.ensures.nodes, c.network-network.ensures.arcs, c.source.ensures) at c.in_ok-value.ensures in
    let agrees = rw (to_z-of_z w128 c.in_ok-value.value (search rules), total.0, is.value_is, is.line_is) at c.in_ok-value_agrees.ensures in
    claim_holds c.args.instance.now s c.in_ok-flow.flow.now carries total.1 c.network-network.ensures.lawful agrees

pub returns-clause-feasible : goal.returns-clause-feasible
returns-clause-feasible g c =
    let i = c.args.instance.now in
    let x = c.in_ok-flow.flow.now in
    let long : length x ≡ length i.arcs = c.in_ok-flow.ensures.one_each ∙ ap length c.requires.network in
    feasible_max_holds i x c.network-network.ensures.lawful long (rw (c.network-network.ensures.nodes, c.network-network.ensures.arcs) at c.in_ok-value.ensures).1
