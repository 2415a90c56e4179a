-- The outcomes of certifying.
use Rattle.std.proofs.Common.{◌≡◌, ◌∙◌, ℕ, ℤ, List, [], ◌∷◌, Ok, Err, refl, sym, subst, ap, inl, inr, length}
use Rattle.dimacs_claims.specs.{Cuts.{CutValue, SpellsCut, canonical_cut}, Labels.{LabelsValue}}
use Rattle.dimacs_claims.specs.{LabelTexts.{SpellsLabels, canonical_labels}, declared.solution.Solution.{Solution}}
use Rattle.dimacs_claims.specs.Potentials.{PotentialsValue, SpellsPotentials, canonical_potentials}
use Rattle.dimacs_claims.specs.SolutionTexts.{SolutionValue, canonical_solution, claimed}
use Rattle.dimacs_network.specs.Arcs.{NetworkValue}
use Rattle.dimacs_instance.specs.{MaxFlows.{MaxValue, IsMax}, MinFlows.{MinValue}}
use Rattle.dimacs_records.specs.{declared.faults.At.{At}, declared.reasons.Reason.{Reason}}
use Rattle.dimacs_records.specs.declared.reasons.Reason.TheVariants.{Feasible, NotLeast, NotMaximum}
use Rattle.dimacs_judging.specs.{declared.verdict.JudgeError.{JudgeError}, declared.verdict.Where.{Where}}
use Rattle.dimacs_judging.specs.{InfeasibleJudge.{ShowsNoFlow}, MaxJudge.{ShowsMaximum, max_claim_rows}}
use Rattle.dimacs_judging.specs.{MinJudge.{ShowsLeast, min_claim_rows}, Optimum.{Least, Maximum}}
use Rattle.dimacs_judging.specs.Tests.{AllClear, FirstAlone, Refutes, Row}
use Rattle.dimacs_judging.proofs.Firsts.{none_first}
use Rattle.dimacs_decide.specs.{CertifiedMax.{CertifiesMax}, CertifiedMin.{CertifiesMin}}
use Rattle.dimacs_decide.specs.CertifiedPaths.{AreAllDistances, AreLabelsOfAll, CertifiesPaths}
use Rattle.dimacs_jobs.specs.declared.status.Status.{Status}
use Rattle.dimacs_jobs.specs.declared.status.Status.TheVariants.{Done, Refused, GaveUp}
use Rattle.dimacs_runs.specs.{Outputs.{WritesAlike, report_of}, Verdicts.{distances_line, failure_line}}
use Rattle.dimacs_runs.specs.Certified.{CertificateOr, CertifiesDistances, CertifiesInfeasible, CertifiesLeast, CertifiesMaximum, IsCheaperText, IsCutText, IsFeasibleText, IsGreaterText, IsPotentialsText, IsSetText, uncertified}
use Rattle.dimacs_runs.specs.inside.Outcomes.{MayCertify, with_text, judge_end, outcome_of}
use Rattle.dimacs_records.specs.declared.kinds.TextKind.TheVariants as kinds
use Rattle.dimacs_judging.specs.declared.verdict.JudgeError.TheVariants as judge_errors
use Rattle.dimacs_judging.specs.declared.verdict.Verdict.TheVariants as verdicts
use Rattle.dimacs_judging.specs.declared.verdict.Where.TheVariants as places
use Rattle.dimacs_judging.proofs.MaxJudge as max
use Rattle.dimacs_judging.proofs.MinJudge as min
use Rattle.dimacs_runs.specs.declared.outcome.OutputText.TheVariants as output_texts
use Rattle.dimacs_runs.specs.declared.report.Report.TheVariants as reports

-- ---- the claim
-- if a text of one kind exists, no test of the claim fails, and no text of the other kind exists
record AreApart (shows better : List ℕ → Type 0) (rows : List Row) : Type 0 where
  shown_clear : (text : List ℕ) → shows text → AllClear rows
  better_clear : (text : List ℕ) → better text → AllClear rows
  one : (a b : List ℕ) → shows a → ¬ better b

module _ {shows better : List ℕ → Type 0} {rows : List Row} {verdict refusal : List ℕ} (apart : AreApart shows better rows) where
  yes_writes : (text : List ℕ) → shows text → WritesAlike (CertificateOr shows verdict rows better refusal) Done (text ∷ verdict ∷ [])
  yes_writes text shown = ((text, shown, refl), alike)
    where
      alike : (s : Status) (other : List (List ℕ)) → CertificateOr shows verdict rows better refusal s other → (s ≡ Done) × (report_of other ≡ verdict)
      alike Done other h = (refl, ap report_of h.2)
      alike Refused other (inl h) = absurd (none_first rows h.0 h.1 (apart.shown_clear text shown) h.2)
      alike Refused other (inr h) = absurd (apart.one text h.0 shown h.1)
      alike GaveUp other h = absurd h

  better_writes : (text : List ℕ) → better text → WritesAlike (CertificateOr shows verdict rows better refusal) Refused (text ∷ refusal ∷ [])
  better_writes text shown = (inr (text, shown, refl), alike)
    where
      alike : (s : Status) (other : List (List ℕ)) → CertificateOr shows verdict rows better refusal s other → (s ≡ Refused) × (report_of other ≡ refusal)
      alike Done other h = absurd (apart.one h.0 text h.1 shown)
      alike Refused other (inl h) = absurd (none_first rows h.0 h.1 (apart.better_clear text shown) h.2)
      alike Refused other (inr h) = (refl, ap report_of h.2)
      alike GaveUp other h = absurd h

  failing_writes : (place : Where) (reason : Reason) → FirstAlone rows place reason → WritesAlike (CertificateOr shows verdict rows better refusal) Refused (uncertified (failure_line place reason))
  failing_writes place reason first = (inl (place, reason, first.0, refl), alike)
    where
      alike : (s : Status) (other : List (List ℕ)) → CertificateOr shows verdict rows better refusal s other → (s ≡ Refused) × (report_of other ≡ failure_line place reason)
      alike Done other h = absurd (none_first rows place reason (apart.shown_clear h.0 h.1) first.0)
      alike Refused other (inl h) = let same = first.1 h.0 h.1 h.2 in (refl, ap report_of h.3 ∙ rw (same.0, same.1) refl)
      alike Refused other (inr h) = absurd (none_first rows place reason (apart.better_clear h.0 h.1) first.0)
      alike GaveUp other h = absurd h

-- the claim was refused, or memory ran out
error_writes : {shows better : List ℕ → Type 0} {rows : List Row} {X : Type 0} (apart : AreApart shows better rows) (verdict refusal : List ℕ) (holds : X → Type 0) (error : JudgeError) → Refutes holds rows error
    → MayCertify (CertificateOr shows verdict rows better refusal) (outcome_of (Err (judge_end error)))
error_writes apart verdict refusal holds (judge_errors.Refused place reason) refutes = failing_writes apart place reason refutes.0
error_writes apart verdict refusal holds judge_errors.Memory refutes = tt

module _ (i : MaxValue) (law : IsMax i) (s : SolutionValue) where
  cut_apart : AreApart (IsCutText i s) (IsGreaterText i s) (max_claim_rows i s)
  cut_apart = record {
    shown_clear = λ text says. max.claim_clear i s law says.1.0 says.1.1.claim;
    better_clear = λ text says. max.claim_clear i s law says.0 says.2.claim;
    one = λ a b says greater. greater.2.not_maximum (subst (λ (f : List ℤ). Maximum i f) (says.1.1.claim.carries.amounts ∙ sym greater.2.claim.carries.amounts) says.1.2);
  }

  -- a cut shows the claim
  pub cut_certifies : (cut : CutValue) (value : ℤ) → value ≡ s.value → ShowsMaximum i s cut → SpellsCut (canonical_cut cut) cut → MayCertify (CertifiesMaximum i s) (Ok (with_text (output_texts.Cut cut) (reports.Yes (verdicts.Max value))))
  cut_certifies cut value is shown spelled = rw is (yes_writes cut_apart (canonical_cut cut) (cut, shown, refl, spelled))

  -- a solution is better
  pub greater_certifies : (solution : Solution) (place : Where) → place ≡ places.Solution s.value_line 2 → IsGreaterText i s (canonical_solution (claimed solution))
      → MayCertify (CertifiesMaximum i s) (Ok (with_text (output_texts.Solution solution) (reports.No place NotMaximum)))
  greater_certifies solution place is says = rw is (better_writes cut_apart (canonical_solution (claimed solution)) says)

  -- a test refused the claim, or memory ran out
  pub maximum_error : (error : JudgeError) → Refutes (CertifiesMax i s) (max_claim_rows i s) error → MayCertify (CertifiesMaximum i s) (outcome_of (Err (judge_end error)))
  maximum_error error refutes = error_writes cut_apart _ _ (CertifiesMax i s) error refutes

module _ (i : MinValue) (s : SolutionValue) where
  potentials_apart : AreApart (IsPotentialsText i s) (IsCheaperText i s) (min_claim_rows i s)
  potentials_apart = record {
    shown_clear = λ text says. min.claim_clear i s says.1.0 says.1.1.claim;
    better_clear = λ text says. min.claim_clear i s says.0 says.2.claim;
    one = λ a b says cheaper. cheaper.2.not_least (subst (λ (f : List ℤ). Least i f) (says.1.1.claim.carries.amounts ∙ sym cheaper.2.claim.carries.amounts) says.1.2);
  }

  -- potentials show the claim
  pub potentials_certify : (potentials : PotentialsValue) (cost : ℤ) → cost ≡ s.value → ShowsLeast i s potentials → SpellsPotentials (canonical_potentials potentials) potentials
      → MayCertify (CertifiesLeast i s) (Ok (with_text (output_texts.Potentials potentials) (reports.Yes (verdicts.Min cost))))
  potentials_certify potentials cost is shown spelled = rw is (yes_writes potentials_apart (canonical_potentials potentials) (potentials, shown, refl, spelled))

  -- a solution is better
  pub cheaper_certifies : (solution : Solution) (place : Where) → place ≡ places.Solution s.value_line 2 → IsCheaperText i s (canonical_solution (claimed solution))
      → MayCertify (CertifiesLeast i s) (Ok (with_text (output_texts.Solution solution) (reports.No place NotLeast)))
  cheaper_certifies solution place is says = rw is (better_writes potentials_apart (canonical_solution (claimed solution)) says)

  -- a flow is better, but no solution can have its cost
  pub no_solution_certifies : (place : Where) → place ≡ places.Solution s.value_line 2 → IsCheaperText i s [] → MayCertify (CertifiesLeast i s) (Ok (with_text output_texts.Nothing (reports.No place NotLeast)))
  no_solution_certifies place is says = rw is (better_writes potentials_apart [] says)

  -- a test refused the claim, or memory ran out
  pub least_error : (error : JudgeError) → Refutes (CertifiesMin i s) (min_claim_rows i s) error → MayCertify (CertifiesLeast i s) (outcome_of (Err (judge_end error)))
  least_error error refutes = error_writes potentials_apart _ _ (CertifiesMin i s) error refutes

-- a text as a whole
abbrev start : At
start = record { line = 0; field = 0 }

module _ (i : MinValue) where
  -- a set shows that no flow is feasible, or a flow is
  set_apart : AreApart (IsSetText i) (IsFeasibleText i) []
  set_apart = record {
    shown_clear = λ text says. tt;
    better_clear = λ text says. tt;
    one = λ a b says feasible. says.1.1 feasible.0 feasible.1;
  }

  -- a set shows it
  pub set_certifies : (set : CutValue) → ShowsNoFlow i set → SpellsCut (canonical_cut set) set → MayCertify (CertifiesInfeasible i) (Ok (with_text (output_texts.Cut set) (reports.Yes verdicts.Infeasible)))
  set_certifies set shown spelled = yes_writes set_apart (canonical_cut set) (set, shown, refl, spelled)

  -- a flow is feasible
  pub feasible_certifies : (solution : Solution) → IsFeasibleText i (canonical_solution (claimed solution)) → MayCertify (CertifiesInfeasible i) (Ok (with_text (output_texts.Solution solution) (reports.Refused kinds.Min start Feasible)))
  feasible_certifies solution says = better_writes set_apart (canonical_solution (claimed solution)) says

  -- a flow is feasible, but no solution can have its cost
  pub no_solution_feasible : IsFeasibleText i [] → MayCertify (CertifiesInfeasible i) (Ok (with_text output_texts.Nothing (reports.Refused kinds.Min start Feasible)))
  no_solution_feasible says = better_writes set_apart [] says

module _ (g : NetworkValue) (d : LabelsValue) where
  -- labels show that the distances are right
  pub labels_certify : (labels : LabelsValue) (sources : ℕ) → sources ≡ length d.blocks → d.nodes ≡ g.nodes → AreAllDistances g d.blocks × AreLabelsOfAll g d.blocks labels
      → SpellsLabels (canonical_labels labels) labels → MayCertify (CertifiesDistances g d) (Ok (with_text (output_texts.Labels labels) (reports.Distances sources)))
  labels_certify labels sources count same shown spelled = rw count ((same, (canonical_labels labels, (shown.0, (labels, shown.1, refl, spelled)), refl)), alike)
    where
      alike : (s : Status) (out : List (List ℕ)) → CertifiesDistances g d s out → (s ≡ Done) × (report_of out ≡ distances_line (length d.blocks))
      alike Done out h = (refl, ap report_of h.1.2)
      alike Refused out (inl h) = absurd (h.0 same)
      alike Refused out (inr h) = absurd (h.1 shown.0)
      alike GaveUp out h = absurd h

  -- a test fails, or memory ran out
  pub distances_error : (error : JudgeError) → d.nodes ≡ g.nodes → CertifiesPaths g d.blocks (Err error) → MayCertify (CertifiesDistances g d) (outcome_of (Err (judge_end error)))
  distances_error (judge_errors.Refused place reason) same refutes = (inr (same, refutes.1, (place, reason, refutes.0.0, refl)), alike)
    where
      alike : (s : Status) (out : List (List ℕ)) → CertifiesDistances g d s out → (s ≡ Refused) × (report_of out ≡ failure_line place reason)
      alike Done out h = absurd (refutes.1 h.1.1.0)
      alike Refused out (inl h) = absurd (h.0 same)
      alike Refused out (inr h) = let is = refutes.0.1 h.2.0 h.2.1 h.2.2 in (refl, ap report_of h.2.3 ∙ rw (is.0, is.1) refl)
      alike GaveUp out h = absurd h
  distances_error judge_errors.Memory same refutes = tt
