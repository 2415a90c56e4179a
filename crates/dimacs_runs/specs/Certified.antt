-- What certify runs write: a certificate or a better solution, and a report. A text that isn't written is empty here.
use Rattle.std.specs.Prelude.{ℕ, ◌≡◌, ◌≢◌, ◌⊎◌, List, [], ◌∷◌, Option, None, Some, IsSome, codes, length, ℤ}
use Rattle.dimacs_records.specs.{declared.kinds.TextKind.{TextKind}, declared.reasons.Reason.{Reason}}
use Rattle.dimacs_records.specs.declared.reasons.Reason.TheVariants.{Feasible, NodesDiffer, NotLeast, NotMaximum}
use Rattle.dimacs_claims.specs.{Cuts.{CutValue, SpellsCut, canonical_cut}, DistanceTexts.{GivesDistances}}
use Rattle.dimacs_claims.specs.{Labels.{BlockValue, LabelsValue}, LabelTexts.{SpellsLabels, canonical_labels}}
use Rattle.dimacs_claims.specs.Potentials.{PotentialsValue, SpellsPotentials, canonical_potentials}
use Rattle.dimacs_claims.specs.SolutionTexts.{SolutionValue, GivesSolution, canonical_solution}
use Rattle.dimacs_network.specs.Arcs.{NetworkValue}
use Rattle.dimacs_instance.specs.{Graph.{GivesGraph}, MaxFlows.{MaxValue}, MaxTexts.{GivesMax}, MinFlows.{MinValue}}
use Rattle.dimacs_instance.specs.MinTexts.{GivesMin}
use Rattle.dimacs_judging.specs.{declared.verdict.Where.{Where}, declared.verdict.Where.TheVariants.{Solution}}
use Rattle.dimacs_judging.specs.{Feasible.{FeasibleMin}, FlowTests.{LeavesCostRange}, InfeasibleJudge.{ShowsNoFlow}}
use Rattle.dimacs_judging.specs.{MaxJudge.{ShowsMaximum, max_claim_rows}, MinJudge.{ShowsLeast, min_claim_rows}}
use Rattle.dimacs_judging.specs.Tests.{First, Row}
use Rattle.dimacs_decide.specs.{Entries.{IsMaxSolutionOf, IsMinSolutionOf}, CertifiedMax.{IsMaxImproved}}
use Rattle.dimacs_decide.specs.CertifiedMin.{IsMinImproved}
use Rattle.dimacs_decide.specs.CertifiedPaths.{AreAllDistances, AreLabelsOfAll, distances_rows}
use Rattle.dimacs_jobs.specs.{declared.jobs.JudgeKind.{JudgeKind}, declared.status.Status.{Status}}
use Rattle.dimacs_jobs.specs.declared.jobs.JudgeKind.TheVariants.{Max, Min, Infeasible, Paths}
use Rattle.dimacs_jobs.specs.declared.status.Status.TheVariants.{Done, Refused, GaveUp}
use Rattle.dimacs_runs.specs.{Solved.{FaultAloneOr}, Refusals.{refusal_line}}
use Rattle.dimacs_runs.specs.Verdicts.{distances_line, failure_line, infeasible_line, max_line, min_line}
use Rattle.dimacs_records.specs.declared.kinds.TextKind.TheVariants as kinds

-- only a report
abbrev pub uncertified : List ℕ → List (List ℕ)
uncertified line = [] ∷ line ∷ []

-- a text that shows the claim, and the verdict; the line of the first test that fails; or a better text, and a refusal
abbrev pub CertificateOr : (List ℕ → Type 0) → List ℕ → List Row → (List ℕ → Type 0) → List ℕ → Status → List (List ℕ) → Type 0
CertificateOr shows verdict rows better refusal Done out = (text : List ℕ) × shows text × (out ≡ text ∷ verdict ∷ [])
CertificateOr shows verdict rows better refusal Refused out =
    ((place : Where) × (reason : Reason) × First rows place reason × (out ≡ uncertified (failure_line place reason)))
    ⊎ ((text : List ℕ) × better text × (out ≡ text ∷ refusal ∷ []))
CertificateOr shows verdict rows better refusal GaveUp out = ⊥

-- the line that refuses the claimed value
abbrev pub value_refused : SolutionValue → Reason → List ℕ
value_refused s reason = failure_line (Solution s.value_line 2) reason

-- the text of a cut that shows the claimed flow maximum
abbrev pub IsCutText : MaxValue → SolutionValue → List ℕ → Type 0
IsCutText i s text = (c : CutValue) × ShowsMaximum i s c × (text ≡ canonical_cut c) × SpellsCut text c

-- the claimed flow isn't maximum, and this is the text of a solution with a greater value
abbrev pub IsGreaterText : MaxValue → SolutionValue → List ℕ → Type 0
IsGreaterText i s text =
    (x : List ℤ) × (y : List ℤ) × IsMaxImproved i s x y × (better : SolutionValue) × IsMaxSolutionOf i y better × (text ≡ canonical_solution better)

-- the text of potentials that show that the claimed flow costs least
abbrev pub IsPotentialsText : MinValue → SolutionValue → List ℕ → Type 0
IsPotentialsText i s text = (p : PotentialsValue) × ShowsLeast i s p × (text ≡ canonical_potentials p) × SpellsPotentials text p

-- the text of a solution with this flow; empty if its sums of costs are out of range, so that a judge would refuse it
abbrev pub IsFlowText : MinValue → List ℤ → List ℕ → Type 0
IsFlowText i y text = ((better : SolutionValue) × IsMinSolutionOf i y better × (text ≡ canonical_solution better)) ⊎ (LeavesCostRange i.arcs y × (text ≡ []))

-- the claimed flow doesn't cost least, and this is the text of a cheaper flow
abbrev pub IsCheaperText : MinValue → SolutionValue → List ℕ → Type 0
IsCheaperText i s text = (x : List ℤ) × (y : List ℤ) × IsMinImproved i s x y × IsFlowText i y text

-- the text of a set that shows that no flow is feasible
abbrev pub IsSetText : MinValue → List ℕ → Type 0
IsSetText i text = (c : CutValue) × ShowsNoFlow i c × (text ≡ canonical_cut c) × SpellsCut text c

-- the text of a feasible flow
abbrev pub IsFeasibleText : MinValue → List ℕ → Type 0
IsFeasibleText i text = (x : List ℤ) × FeasibleMin i x × IsFlowText i x text

-- all claimed distances are right, and this is the text of labels that show it
abbrev pub IsLabelsText : NetworkValue → List BlockValue → List ℕ → Type 0
IsLabelsText g blocks text = AreAllDistances g blocks × ((l : LabelsValue) × AreLabelsOfAll g blocks l × (text ≡ canonical_labels l) × SpellsLabels text l)

abbrev pub CertifiesMaximum : MaxValue → SolutionValue → Status → List (List ℕ) → Type 0
CertifiesMaximum i s = CertificateOr (IsCutText i s) (max_line s.value) (max_claim_rows i s) (IsGreaterText i s) (value_refused s NotMaximum)

abbrev pub CertifiesLeast : MinValue → SolutionValue → Status → List (List ℕ) → Type 0
CertifiesLeast i s = CertificateOr (IsPotentialsText i s) (min_line s.value) (min_claim_rows i s) (IsCheaperText i s) (value_refused s NotLeast)

-- there is no claim, so no test of a claim can fail
abbrev pub CertifiesInfeasible : MinValue → Status → List (List ℕ) → Type 0
CertifiesInfeasible i = CertificateOr (IsSetText i) infeasible_line [] (IsFeasibleText i) (refusal_line (codes "instance") 0 0 Feasible)

-- the text of labels, and the verdict; or the numbers of nodes differ; or the first test that fails
abbrev pub CertifiesDistances : NetworkValue → LabelsValue → Status → List (List ℕ) → Type 0
CertifiesDistances g d Done out =
    (d.nodes ≡ g.nodes) × ((text : List ℕ) × IsLabelsText g d.blocks text × (out ≡ text ∷ distances_line (length d.blocks) ∷ []))
CertifiesDistances g d Refused out =
    ((d.nodes ≢ g.nodes) × (out ≡ uncertified (refusal_line (codes "distances") 0 0 NodesDiffer)))
    ⊎ ((d.nodes ≡ g.nodes) × (¬ AreAllDistances g d.blocks)
    × ((place : Where) × (reason : Reason) × First (distances_rows g d.blocks) place reason × (out ≡ uncertified (failure_line place reason))))
CertifiesDistances g d GaveUp out = ⊥

-- what is written for an instance and a claim
abbrev pub Certified : JudgeKind → List ℕ → List ℕ → Status → List (List ℕ) → Type 0
Certified Max instance claim =
    FaultAloneOr uncertified kinds.Max GivesMax instance (λ i.
    FaultAloneOr uncertified kinds.Solution GivesSolution claim (λ s.
    CertifiesMaximum i s))
Certified Min instance claim =
    FaultAloneOr uncertified kinds.Min GivesMin instance (λ i.
    FaultAloneOr uncertified kinds.Solution GivesSolution claim (λ s.
    CertifiesLeast i s))
Certified Infeasible instance claim =
    FaultAloneOr uncertified kinds.Min GivesMin instance (λ i.
    CertifiesInfeasible i)
Certified Paths instance claim =
    FaultAloneOr uncertified kinds.Graph GivesGraph instance (λ g.
    FaultAloneOr uncertified kinds.Distances GivesDistances claim (λ d.
    CertifiesDistances g d))

abbrev pub certified_kind : JudgeKind → TextKind
certified_kind Max = kinds.Max
certified_kind Paths = kinds.Graph
certified_kind kind = kinds.Min

abbrev pub claimed_kind : JudgeKind → Option TextKind
claimed_kind Infeasible = None
claimed_kind Paths = Some kinds.Distances
claimed_kind kind = Some kinds.Solution

-- the bytes of the claim, if there is one
abbrev pub IsClaimed : JudgeKind → Option (List ℕ) → List ℕ → Type 0
IsClaimed kind coming bytes = IsSome (claimed_kind kind) → coming ≡ Some bytes
