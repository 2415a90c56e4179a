use Rattle.dimacs_judging.specs.MaxJudge.{max_claim_rows}
use Rattle.dimacs_judging.proofs.Settling.{refuted_settles}
use Rattle.dimacs_decide.proofs.CertifiedLemmas.{max_certified, max_claimed}
use Rattle.dimacs_decide.proofs.certified_max.decide_claim.Goals as goal

pub returns-in_err-flow : goal.returns-in_err-flow
returns-in_err-flow g c = λ s is.
    let i = c.args.instance.now in
    refuted_settles _ _ (max_claim_rows i s) (max_claimed i s) _ (c.in_err-flow.ensures.refuted s is) _ c.from_residual.ensures.1

pub returns : goal.returns
returns g c = λ s is. max_certified c.args.instance.now s c.in_ok-flow.flow.now c.in_ok-decision.decision (c.in_ok-flow.ensures.claim s is) c.in_ok-decision.ensures
