-- A set of marked nodes, judged as a set of nodes of the instance.
use Rattle.std.proofs.Common.{◌≡◌, inl, inr, [], ◌∷◌, Result, Ok, Err}
use Rattle.dimacs_claims.specs.Cuts.{CutValue}
use Rattle.dimacs_instance.specs.MinFlows.{MinValue}
use Rattle.dimacs_records.specs.declared.reasons.Reason.{Reason}
use Rattle.dimacs_judging.specs.{declared.verdict.JudgeError.{JudgeError}, declared.verdict.Verdict.{Verdict}}
use Rattle.dimacs_judging.specs.{declared.verdict.JudgeError.TheVariants.{Refused, Memory}, Agreement.{nodes_row}}
use Rattle.dimacs_judging.specs.{declared.verdict.Verdict.TheVariants.{Infeasible}, declared.verdict.Where.{Where}}
use Rattle.dimacs_judging.specs.{CertificateTests.{violated_row}, Cuts.{members}, Tests.{Clear, First, Judges}}
use Rattle.dimacs_judging.specs.InfeasibleJudge.{ShowsNoFlow, infeasible_rows}
use Rattle.dimacs_judging.proofs.Passing.{nodes_clear}
use Rattle.dimacs_arrays.specs.MinArrays.{JudgesInfeasible}

module _ (i : MinValue) (c : CutValue) (same : c.nodes ≡ i.nodes) where
  agreed : Clear (nodes_row i.nodes c.nodes)
  agreed = nodes_clear i.nodes c.nodes same

  after_nodes : (place : Where) (reason : Reason) → First (infeasible_rows i c) place reason → First (violated_row i (members c) ∷ []) place reason
  after_nodes place reason (inl f) = absurd (agreed f.number place reason f.fails)
  after_nodes place reason (inr f) = f.1

  pub judged_alone : (result : Result Verdict JudgeError) → Judges (infeasible_rows i c) (ShowsNoFlow i c) (λ verdict. verdict ≡ Infeasible) result
      → JudgesInfeasible i (members c) result
  judged_alone (Ok verdict) outcome = (outcome.0.1, (outcome.1.0.violated, outcome.1.1), outcome.2)
  judged_alone (Err (Refused place reason)) outcome = (
    (after_nodes place reason outcome.0.0, λ other why first. outcome.0.1 other why (inr (agreed, first))),
    λ shown. outcome.1 (record { nodes_are = same; violated = shown.0 }, shown.1),
  )
  judged_alone (Err Memory) outcome = tt
