-- The theorems: what runs write with `Done`, the judge's run answers yes; a claim is certified exactly if it is true; a
-- canonical text is converted to itself; and with a great enough limit a solver of maximum flow doesn't give up.
use Rattle.std.specs.Prelude.{ℕ, ℤ, pos, ◌≡◌, ◌≢◌, ◌≤◌, ◌<◌, ◌<ℤ◌, ◌⊎◌, ◌↔◌, List, [], ◌∷◌, length}
use Rattle.std.specs.List.{All, Contains}
use Rattle.dimacs_claims.specs.{DistanceTexts.{SpellsDistances}, Labels.{BlockValue, LabelsValue}}
use Rattle.dimacs_claims.specs.{LabelTexts.{FitText, canonical_labels}, SolutionTexts.{SolutionValue, SpellsSolution}}
use Rattle.dimacs_network.specs.{Arcs.{NetworkValue}, declared.network.ArcView.{ArcView}}
use Rattle.dimacs_records.specs.{Ranges.{IsWide}, declared.kinds.TextKind.{TextKind}}
use Rattle.dimacs_instance.specs.{Graph.{SpellsGraph}, QueryTexts.{QueriesValue, SpellsQueries}, MaxFlows.{MaxValue}}
use Rattle.dimacs_instance.specs.{MaxTexts.{SpellsMax}, MinFlows.{MinValue}, MinTexts.{SpellsMin}}
use Rattle.dimacs_judging.specs.{Claims.{Carries}, Feasible.{value}, FlowTests.{cost_through}, Flows.{cost}}
use Rattle.dimacs_judging.specs.{Optimum.{Least, Maximum, NoFlow}, QueryTests.{nodes_asked, sources_asked}}
use Rattle.dimacs_decide.specs.CertifiedPaths.{AreAllDistances, sources_of}
use Rattle.dimacs_jobs.specs.{declared.jobs.JudgeKind.{JudgeKind}, declared.jobs.SolveJob.{SolveJob}}
use Rattle.dimacs_jobs.specs.declared.jobs.JudgeKind.TheVariants.{Max, Min, Infeasible, Paths}
use Rattle.dimacs_jobs.specs.{declared.status.Status.{Status}, declared.status.Status.TheVariants.{Done, GaveUp}}
use Rattle.dimacs_runs.specs.{Solved.{Solved}, declared.text.TextForm.TheVariants.{Canonical}, Runs.{Prints}}
use Rattle.dimacs_runs.specs.{Certified.{Certified}, Judged.{Judged, paths_lines}}
use Rattle.dimacs_jobs.specs.declared.jobs.JudgeKind.TheVariants as judges
use Rattle.dimacs_jobs.specs.declared.jobs.SolveJob.TheVariants as solves

-- each query is about the source of a block and nodes of the graph
pub record AskOf (nodes : ℕ) (blocks : List BlockValue) (q : QueriesValue) : Type 0 where
  pub sources : All (λ source. Contains (sources_of blocks) source) (sources_asked q)
  pub within : All (λ id. id ≤ nodes) (nodes_asked q)

-- the judge's run over the graph, any queries about the claim's sources and the certificate answers yes, and prints the
-- claimed distances
abbrev pub PathsJudgedYes : List ℕ → List ℕ → List ℕ → Type 0
PathsJudgedYes graph claim certificate =
    (g : NetworkValue) × (d : LabelsValue) × SpellsGraph graph g × SpellsDistances claim d
    × ((queries : List ℕ) (q : QueriesValue) → SpellsQueries queries q → AskOf g.nodes d.blocks q
    → Judged Paths graph queries certificate Done (paths_lines d.blocks q))

-- the judge's run over the instance, the claim and the certificate answers yes, and prints the same report
abbrev pub CertifiedYes : JudgeKind → List ℕ → List ℕ → List ℕ → List ℕ → Type 0
CertifiedYes judges.Max instance claim certificate report = Judged Max instance claim certificate Done report
CertifiedYes judges.Min instance claim certificate report = Judged Min instance claim certificate Done report
CertifiedYes judges.Infeasible instance claim certificate report = Judged Infeasible instance claim certificate Done report
CertifiedYes judges.Paths graph claim certificate report = PathsJudgedYes graph claim certificate

-- with `Done`, `run_certify` writes a certificate by which the judge's run answers yes; of distances, to any queries about
-- their sources and nodes of the graph
abbrev pub CertifiedLaw : Type 0
CertifiedLaw =
    (kind : JudgeKind) (instance claim : List ℕ) (out : List (List ℕ)) → Certified kind instance claim Done out
    → (certificate : List ℕ) × (report : List ℕ) × (out ≡ certificate ∷ report ∷ []) × CertifiedYes kind instance claim certificate report

-- the solution's flow is maximum, and has the claimed value
abbrev pub IsTrueMax : MaxValue → SolutionValue → Type 0
IsTrueMax i s = (x : List ℤ) × Carries i.arcs s.entries x × Maximum i x × (value i x ≡ s.value)

-- up to each arc, the sum of the costs is in the range of claimed costs
abbrev pub SumsStayInRange : List ArcView → List ℤ → Type 0
SumsStayInRange arcs x = (k : ℕ) → k < length arcs → IsWide (cost_through arcs x k)

-- the solution's flow costs least, and that much; and the sum of its costs stays in range up to each arc: otherwise a
-- right claim is refused
abbrev pub IsTrueMin : MinValue → SolutionValue → Type 0
IsTrueMin i s = (x : List ℤ) × Carries i.arcs s.entries x × Least i x × (cost i.arcs x ≡ s.value) × SumsStayInRange i.arcs x

-- the claims of all blocks are the distances, in a graph with as many nodes
abbrev pub AreTrueDistances : NetworkValue → LabelsValue → Type 0
AreTrueDistances g d = (d.nodes ≡ g.nodes) × AreAllDistances g d.blocks

-- the texts spell an instance and a claim that is true of it
abbrev pub IsTrueClaim : JudgeKind → List ℕ → List ℕ → Type 0
IsTrueClaim judges.Max instance claim = (i : MaxValue) × SpellsMax instance i × ((s : SolutionValue) × SpellsSolution claim s × IsTrueMax i s)
IsTrueClaim judges.Min instance claim = (i : MinValue) × SpellsMin instance i × ((s : SolutionValue) × SpellsSolution claim s × IsTrueMin i s)
IsTrueClaim judges.Infeasible instance claim = (i : MinValue) × SpellsMin instance i × NoFlow i
IsTrueClaim judges.Paths graph claim = (g : NetworkValue) × SpellsGraph graph g × ((d : LabelsValue) × SpellsDistances claim d × AreTrueDistances g d)

-- `run_certify`, if it ends without an error, ends with `Done` exactly if the texts spell an instance and a claim that is
-- true of it
abbrev pub TrueClaimLaw : Type 0
TrueClaimLaw =
    (kind : JudgeKind) (instance claim : List ℕ) (status : Status) (out : List (List ℕ)) → Certified kind instance claim status out
    → (status ≡ Done) ↔ IsTrueClaim kind instance claim

-- the judge's run over the instance and what was written answers yes, and prints the same report; labels must have no
-- more lines than a text may have
abbrev pub SolvedYes : SolveJob → List ℕ → List ℕ → List ℕ → List ℕ → List ℕ → Type 0
SolvedYes (solves.Max limit) instance queries claim certificate report = Judged Max instance claim certificate Done report
SolvedYes (solves.Min limit) instance queries claim certificate report =
    Judged Min instance claim certificate Done report ⊎ ((claim ≡ []) × Judged Infeasible instance claim certificate Done report)
SolvedYes solves.Paths graph queries claim certificate report =
    (l : LabelsValue) × (certificate ≡ canonical_labels l) × (FitText l → Judged Paths graph queries certificate Done report)

-- with `Done`, `run_solve` writes a claim and a certificate by which the judge's run answers yes
abbrev pub SolvedLaw : Type 0
SolvedLaw =
    (job : SolveJob) (instance queries : List ℕ) (out : List (List ℕ)) → Solved job instance queries Done out
    → (claim : List ℕ) × (certificate : List ℕ) × (report : List ℕ) × (out ≡ claim ∷ certificate ∷ report ∷ [])
    × SolvedYes job instance queries claim certificate report

-- what `run_convert` prints with `Done`, it prints of that again
abbrev pub FixedPointLaw : Type 0
FixedPointLaw = (kind : TextKind) (bytes out : List ℕ) → Prints Canonical kind bytes Done out → Prints Canonical kind out Done out

-- with a limit above 0 and above a maximum flow's value, `run_solve` doesn't give up
abbrev pub RunLimitLaw : Type 0
RunLimitLaw =
    (instance queries : List ℕ) (limit : ℕ) (i : MaxValue) (best : List ℤ) → SpellsMax instance i → Maximum i best → 0 < limit → value i best <ℤ pos limit
    → (status : Status) (out : List (List ℕ)) → Solved (solves.Max limit) instance queries status out → status ≢ GaveUp
