use Rattle.std.proofs.Common.{refl, subst}
use Rattle.dimacs_jobs.specs.declared.jobs.JudgeKind.{JudgeKind}
use Rattle.dimacs_runs.specs.Certified.{IsClaimed}
use Rattle.dimacs_runs.proofs.certify.certify_claim.Goals.{in-Max, in-Min, in-Infeasible, in-Paths}
use Rattle.dimacs_runs.proofs.certify.certify_claim.Goals as goal

pub returns-clause-certifies : goal.returns-clause-certifies
returns-clause-certifies g c = λ a b first second.
    rw c.outcome_of.ensures (elim c.match-kind.branch [
      | in-Max w ↦ let claim = subst (λ (k : JudgeKind). IsClaimed k (g.Q.Source.coming c.args.claim.now) b) w.in-Max.is second in rw (w.in-Max.is, w.outcome_of-is) (w.certify_maximum.ensures.certifies a b first (claim refl))
      | in-Min w ↦ let claim = subst (λ (k : JudgeKind). IsClaimed k (g.Q.Source.coming c.args.claim.now) b) w.in-Min.is second in rw (w.in-Min.is, w.outcome_of-is) (w.certify_least.ensures.certifies a b first (claim refl))
      | in-Infeasible w ↦ rw (w.in-Infeasible.is, w.outcome_of-is) (w.certify_infeasible.ensures.certifies a first)
      | in-Paths w ↦ let claim = subst (λ (k : JudgeKind). IsClaimed k (g.Q.Source.coming c.args.claim.now) b) w.in-Paths.is second in rw (w.in-Paths.is, w.outcome_of-is) (w.certify_distances.ensures.certifies a b first (claim refl))
    ])
