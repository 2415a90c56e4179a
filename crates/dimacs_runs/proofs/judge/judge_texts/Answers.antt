use Rattle.std.proofs.Common.{◌≡◌, ◌∙◌, subst, sym, ap, refl, Option, Some, None}
use Rattle.dimacs_records.specs.declared.kinds.TextKind.{TextKind}
use Rattle.dimacs_jobs.specs.declared.jobs.JudgeKind.{JudgeKind}
use Rattle.dimacs_runs.specs.{Judged.{IsClaim, claim_kind, instance_kind}, inside.Judgings.{HasFault}}
use Rattle.dimacs_runs.proofs.judge.judge_texts.Goals.{in-Max, in-Min, in-Infeasible, in-Paths}
use Rattle.dimacs_records.specs.declared.kinds.TextKind.TheVariants as kinds
use Rattle.dimacs_jobs.specs.declared.jobs.JudgeKind.TheVariants as judges
use Rattle.dimacs_runs.proofs.judge.judge_texts.Goals as goal

pub returns-clause-reports : goal.returns-clause-reports
returns-clause-reports g c = λ a b d first second third.
    rw c.outcome_of.ensures (elim c.match-kind.branch [
      | in-Max w ↦ let claim = subst (λ (k : JudgeKind). IsClaim k (g.Q.Source.coming c.args.claim.now) b) w.in-Max.is second in rw (w.in-Max.is, w.outcome_of-is) (w.report_max.ensures.reports a b d first (claim refl) third)
      | in-Min w ↦ let claim = subst (λ (k : JudgeKind). IsClaim k (g.Q.Source.coming c.args.claim.now) b) w.in-Min.is second in rw (w.in-Min.is, w.outcome_of-is) (w.report_min.ensures.reports a b d first (claim refl) third)
      | in-Infeasible w ↦ rw (w.in-Infeasible.is, w.outcome_of-is) (w.report_infeasible.ensures.reports a d first third)
      | in-Paths w ↦ let claim = subst (λ (k : JudgeKind). IsClaim k (g.Q.Source.coming c.args.claim.now) b) w.in-Paths.is second in rw (w.in-Paths.is, w.outcome_of-is) (w.report_paths.ensures.reports a b d first (claim refl) third)
    ])

pub returns-clause-stops_at_instance : goal.returns-clause-stops_at_instance
returns-clause-stops_at_instance g c = λ fault.
    elim c.match-kind.branch [
      | in-Max w ↦ rw (w.claim-is, w.certificate-is) (w.report_max.ensures.stops_at_instance (subst (λ (k : JudgeKind). HasFault (instance_kind k) (g.P.Source.coming c.args.instance.now)) w.in-Max.is fault))
      | in-Min w ↦ rw (w.claim-is, w.certificate-is) (w.report_min.ensures.stops_at_instance (subst (λ (k : JudgeKind). HasFault (instance_kind k) (g.P.Source.coming c.args.instance.now)) w.in-Min.is fault))
      | in-Infeasible w ↦ (w.claim-is, w.certificate-is ∙ w.report_infeasible.ensures.stops_at_instance (subst (λ (k : JudgeKind). HasFault (instance_kind k) (g.P.Source.coming c.args.instance.now)) w.in-Infeasible.is fault))
      | in-Paths w ↦ rw (w.claim-is, w.certificate-is) (w.report_paths.ensures.stops_at_instance (subst (λ (k : JudgeKind). HasFault (instance_kind k) (g.P.Source.coming c.args.instance.now)) w.in-Paths.is fault))
    ]

-- the kind of the claim, if there is one
abbrev kind_in : Option TextKind → TextKind
kind_in (Some kind) = kind
kind_in None = kinds.Solution

is_claimed : (k : JudgeKind) (kind : JudgeKind) (claimed : TextKind) → kind ≡ k → claim_kind kind ≡ Some claimed → claimed ≡ kind_in (claim_kind k)
is_claimed k kind claimed is has = sym (ap kind_in (subst (λ (j : JudgeKind). claim_kind j ≡ Some claimed) is has))

pub returns-clause-stops_at_claim : goal.returns-clause-stops_at_claim
returns-clause-stops_at_claim g c = λ claimed has fault.
    elim c.match-kind.branch [
      | in-Max w ↦ w.certificate-is ∙ w.report_max.ensures.stops_at_claim (subst (λ (k : TextKind). HasFault k (g.Q.Source.coming c.args.claim.now)) (is_claimed judges.Max c.args.kind claimed w.in-Max.is has) fault)
      | in-Min w ↦ w.certificate-is ∙ w.report_min.ensures.stops_at_claim (subst (λ (k : TextKind). HasFault k (g.Q.Source.coming c.args.claim.now)) (is_claimed judges.Min c.args.kind claimed w.in-Min.is has) fault)
      | in-Infeasible w ↦ let nothing : None ≡ Some claimed = subst (λ (j : JudgeKind). claim_kind j ≡ Some claimed) w.in-Infeasible.is has in absurd cc
      | in-Paths w ↦ w.certificate-is ∙ w.report_paths.ensures.stops_at_claim (subst (λ (k : TextKind). HasFault k (g.Q.Source.coming c.args.claim.now)) (is_claimed judges.Paths c.args.kind claimed w.in-Paths.is has) fault)
    ]
