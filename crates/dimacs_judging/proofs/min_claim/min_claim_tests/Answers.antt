use Rattle.std.proofs.{Common.{rules, ◌≡◌, inl, length, ap, ◌∙◌}, lemmas.Int.{to_z-of_z}}
use Rattle.std.proofs.lemmas.Result.{err_from_is_err_and}
use Rattle.std.specs.Int.{w128}
use Rattle.dimacs_judging.specs.{MinJudge.{min_claim_rows}, declared.verdict.JudgeError.TheVariants.{Refused}}
use Rattle.dimacs_judging.proofs.MinJudge.{claim_clear, claim_holds, claim_one_way, flow_refused, value_refused}
use Rattle.dimacs_judging.proofs.{Passing.{feasible_min_holds}, Settling.{refusal_refutes}}
use Rattle.dimacs_judging.proofs.min_claim.min_claim_tests.Goals as goal

pub returns-in_err-flow-clause-refuted : goal.returns-in_err-flow-clause-refuted
returns-in_err-flow-clause-refuted g c =
    let p = err_from_is_err_and c.from_residual.result c.from_residual.ensures.1 in
    rw (p.1, p.2) (λ s is.
    let first = rw c.requires.network at (c.in_err-flow.ensures.first s.entries is.entries) in
    refusal_refutes _ (min_claim_rows _ s) (claim_one_way _ s) (claim_clear _ s) (Refused c.in_err-flow.field-0.0.0 c.in_err-flow.field-0.0.1) (inl first))

pub returns-in_err-cost-clause-refuted : goal.returns-in_err-cost-clause-refuted
returns-in_err-cost-clause-refuted g c =
    let p = err_from_is_err_and c.from_residual-in_err-cost.result c.from_residual-in_err-cost.ensures.1 in
    let outcome = rw (c.network-network.ensures.nodes, c.network-network.ensures.arcs) at c.in_err-cost.ensures in
    rw (p.1, p.2) (λ s is.
    let i = c.args.instance.now in
    let carries = rw c.requires.network at (c.in_ok-flow.ensures.carried s.entries is.entries) in
    refusal_refutes _ (min_claim_rows i s) (claim_one_way i s) (claim_clear i s) _ (flow_refused i s c.in_ok-flow.flow.now carries _ outcome))

pub returns-in_err-value_agrees-clause-refuted : goal.returns-in_err-value_agrees-clause-refuted
returns-in_err-value_agrees-clause-refuted g c =
    let p = err_from_is_err_and c.from_residual-in_err-value_agrees.result c.from_residual-in_err-value_agrees.ensures.1 in
    rw (p.1, p.2) (λ s is.
    let carries = rw c.requires.network at (c.in_ok-flow.ensures.carried s.entries is.entries) in
    let total = rw (c.network-network.ensures.nodes, c.network-network.ensures.arcs) at c.in_ok-cost.ensures in
    let outcome = rw (to_z-of_z w128 c.in_ok-cost.cost (search rules), total.0, is.value_is, is.line_is) at c.in_err-value_agrees.ensures in
    refusal_refutes _ (min_claim_rows _ s) (claim_one_way _ s) (claim_clear _ s) (Refused c.in_err-value_agrees.field-0.0.0 c.in_err-value_agrees.field-0.0.1) (value_refused _ s _ carries (total.1.0, (total.1.1.0, tt)) total.1.1.1.0 _ _ outcome))

pub returns-clause-claim : goal.returns-clause-claim
returns-clause-claim g c = λ s is.
    let carries = rw c.requires.network at (c.in_ok-flow.ensures.carried s.entries is.entries) in
    let total = rw (c.network-network.ensures.nodes, c.network-network.ensures.arcs) at c.in_ok-cost.ensures in
    let agrees = rw (to_z-of_z w128 c.in_ok-cost.cost (search rules), total.0, is.value_is, is.line_is) at c.in_ok-value_agrees.ensures in
    claim_holds c.args.instance.now s c.in_ok-flow.flow.now carries (total.1.0, (total.1.1.0, tt)) total.1.1.1.0 agrees

pub returns-clause-feasible : goal.returns-clause-feasible
returns-clause-feasible g c =
    let i = c.args.instance.now in
    let x = c.in_ok-flow.flow.now in
    let long : length x ≡ length i.arcs = c.in_ok-flow.ensures.one_each ∙ ap length c.requires.network in
    let clear = (rw (c.network-network.ensures.nodes, c.network-network.ensures.arcs) at c.in_ok-cost.ensures).1 in
    feasible_min_holds i x long (clear.0, (clear.1.0, tt))
