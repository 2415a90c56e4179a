use Rattle.dimacs_judging.specs.InfeasibleJudge.{ShowsNoFlow}
use Rattle.dimacs_runs.proofs.CertifyingLemmas.{set_certifies}
use Rattle.dimacs_runs.proofs.certify_infeasible.answer_infeasible.Goals as goal

pub returns-in-Infeasible-clause-certifies : goal.returns-in-Infeasible-clause-certifies
returns-in-Infeasible-clause-certifies g c =
    let shown : ShowsNoFlow c.args.instance.now c.in-Infeasible.set = rw c.in-Infeasible.is at c.in_ok-set.ensures in
    rw c.certified.ensures.outcome (set_certifies c.args.instance.now c.in-Infeasible.set shown c.certified.ensures.readable)
