-- What solvers write: a claim, its certificate and a report. A text that isn't written is empty here.
use Rattle.std.specs.{Prelude.{ℕ, ◌≡◌, ◌<◌, ◌⊎◌, List, [], ◌∷◌, Option, Some}, List.{All}}
use Rattle.dimacs_lines.specs.Lines.{lines}
use Rattle.dimacs_records.specs.{declared.kinds.TextKind.{TextKind}, declared.reasons.Reason.{Reason}, Faults.{Fault}}
use Rattle.dimacs_records.specs.{declared.reasons.Reason.TheVariants.{NegativeWeight}, Readings.{LineRecord}}
use Rattle.dimacs_records.specs.Texts.{SpellsValue}
use Rattle.dimacs_claims.specs.{Cuts.{CutValue, SpellsCut, canonical_cut}, LabelTexts.{canonical_labels}}
use Rattle.dimacs_claims.specs.{Labels.{AreLabels, LabelsValue}, SolutionTexts.{SolutionValue, canonical_solution}}
use Rattle.dimacs_claims.specs.Potentials.{PotentialsValue, SpellsPotentials, canonical_potentials}
use Rattle.dimacs_network.specs.Arcs.{NetworkValue}
use Rattle.dimacs_instance.specs.{Graph.{GivesGraph}, MaxFlows.{MaxValue}, MaxTexts.{GivesMax}, MinFlows.{MinValue}}
use Rattle.dimacs_instance.specs.{MinTexts.{GivesMin}, QueryTexts.{QueriesValue, GivesQueries}}
use Rattle.dimacs_judging.specs.{declared.verdict.Where.{Where}, declared.verdict.Where.TheVariants.{Arc}}
use Rattle.dimacs_judging.specs.{InfeasibleJudge.{ShowsNoFlow}, QueryTests.{query_node_row}, Tests.{Clear, FirstOfRow}}
use Rattle.dimacs_solve.specs.{Climbing.{GivesUp}, Descending.{GivesUpMin}, SolveMax.{IsOptimal}}
use Rattle.dimacs_solve.specs.{Paths.{AreProduced, HasNoNegativeWeight, IsFirstNegative}, SolveMin.{IsLeastAnswer}}
use Rattle.dimacs_jobs.specs.{declared.jobs.SolveJob.{SolveJob}, declared.jobs.SolveJob.TheVariants.{Max, Min, Paths}}
use Rattle.dimacs_jobs.specs.declared.status.Status.{Status}
use Rattle.dimacs_jobs.specs.declared.status.Status.TheVariants.{Done, Refused, GaveUp}
use Rattle.dimacs_runs.specs.{Judged.{paths_lines}, Refusals.{refusal_line}, Runs.{text_word}}
use Rattle.dimacs_runs.specs.Verdicts.{failure_line, gave_up_line, infeasible_line, max_line, min_line}
use Rattle.dimacs_records.specs.declared.kinds.TextKind.TheVariants as kinds

-- only a report
abbrev pub report_alone : List ℕ → List (List ℕ)
report_alone line = [] ∷ [] ∷ line ∷ []

-- the bytes have a fault, and only its line is written; or they spell a value, and the outcome follows from that
abbrev pub FaultAloneOr : {V : Type 0} → (List ℕ → List (List ℕ)) → TextKind → (List LineRecord → V → Type 0) → List ℕ
    → (V → Status → List (List ℕ) → Type 0) → Status → List (List ℕ) → Type 0
FaultAloneOr alone kind gives bytes next status out =
    ((l : ℕ) × (f : ℕ) × (r : Reason) × Fault kind (lines bytes) l f r × (status ≡ Refused) × (out ≡ alone (refusal_line (text_word kind) l f r)))
    ⊎ ((v : _) × SpellsValue kind gives (lines bytes) v × next v status out)

-- a solution, a cut that shows it maximum, and the verdict; or none of `limit` flows is maximum
abbrev pub FindsMaximum : MaxValue → ℕ → Status → List (List ℕ) → Type 0
FindsMaximum i limit Done out =
    (0 < limit) × (s : SolutionValue) × (c : CutValue) × IsOptimal i s c × SpellsCut (canonical_cut c) c × (out ≡ canonical_solution s ∷ canonical_cut c ∷ max_line s.value ∷ [])
FindsMaximum i limit Refused out = ⊥
FindsMaximum i limit GaveUp out = GivesUp i limit × (out ≡ report_alone gave_up_line)

-- a solution with potentials or a set of nodes, and the verdict; or no flow is least in `limit` steps, or in range
abbrev pub FindsLeast : MinValue → ℕ → Status → List (List ℕ) → Type 0
FindsLeast i limit Done out =
    ((s : SolutionValue) × (p : PotentialsValue) × IsLeastAnswer i limit s p × SpellsPotentials (canonical_potentials p) p × (out ≡ canonical_solution s ∷ canonical_potentials p ∷ min_line s.value ∷ []))
    ⊎ ((c : CutValue) × ShowsNoFlow i c × SpellsCut (canonical_cut c) c × (out ≡ [] ∷ canonical_cut c ∷ infeasible_line ∷ []))
FindsLeast i limit Refused out = ⊥
FindsLeast i limit GaveUp out = GivesUpMin i limit × (out ≡ report_alone gave_up_line)

-- the first query with a node that doesn't exist; otherwise the first arc with a negative weight
abbrev pub RefusesPaths : NetworkValue → QueriesValue → Where → Reason → Type 0
RefusesPaths g q place reason =
    FirstOfRow (query_node_row g.nodes q) place reason
    ⊎ (Clear (query_node_row g.nodes q) × ((k : ℕ) × IsFirstNegative g.arcs k × (place ≡ Arc k) × (reason ≡ NegativeWeight)))

-- labels that are distances, and the verdict; or the line of a refusal
abbrev pub FindsPaths : NetworkValue → QueriesValue → Status → List (List ℕ) → Type 0
FindsPaths g q Done out =
    (l : LabelsValue) × (Clear (query_node_row g.nodes q) × All HasNoNegativeWeight g.arcs × AreProduced g q l)
    × AreLabels l × (out ≡ [] ∷ canonical_labels l ∷ paths_lines l.blocks q ∷ [])
FindsPaths g q Refused out = (place : Where) × (reason : Reason) × RefusesPaths g q place reason × (out ≡ report_alone (failure_line place reason))
FindsPaths g q GaveUp out = ⊥

-- what is written for an instance, and for queries if there are any
abbrev pub Solved : SolveJob → List ℕ → List ℕ → Status → List (List ℕ) → Type 0
Solved (Max limit) instance queries = FaultAloneOr report_alone kinds.Max GivesMax instance (λ i. FindsMaximum i limit)
Solved (Min limit) instance queries = FaultAloneOr report_alone kinds.Min GivesMin instance (λ i. FindsLeast i limit)
Solved Paths instance queries =
    FaultAloneOr report_alone kinds.Graph GivesGraph instance (λ g.
    FaultAloneOr report_alone kinds.Queries GivesQueries queries (λ q.
    FindsPaths g q))

-- the bytes of the queries, if there are any
abbrev pub AreQueries : SolveJob → Option (List ℕ) → List ℕ → Type 0
AreQueries Paths coming bytes = coming ≡ Some bytes
AreQueries job coming bytes = Unit {0}

abbrev pub solved_kind : SolveJob → TextKind
solved_kind (Max limit) = kinds.Max
solved_kind (Min limit) = kinds.Min
solved_kind Paths = kinds.Graph
