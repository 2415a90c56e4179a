-- What judge runs print for the bytes of an instance, a claim and a certificate.
use Rattle.std.specs.{Prelude.{ℕ, ◌≡◌, List, Option, None, Some, IsSome, length, map}, List.{flat_map}}
use Rattle.dimacs_records.specs.declared.kinds.TextKind.{TextKind}
use Rattle.dimacs_claims.specs.{Cuts.{GivesCut}, LabelTexts.{GivesLabels}, Labels.{BlockValue}}
use Rattle.dimacs_claims.specs.{Potentials.{GivesPotentials}, SolutionTexts.{GivesSolution}}
use Rattle.dimacs_instance.specs.{Graph.{GivesGraph}, MaxTexts.{GivesMax}, MinTexts.{GivesMin}}
use Rattle.dimacs_instance.specs.QueryTexts.{QueriesValue, GivesQueries, Sources, Pairs}
use Rattle.dimacs_judging.specs.{Answers.{answer_to}, Claims.{claimed_flow}, InfeasibleJudge.{infeasible_rows}}
use Rattle.dimacs_judging.specs.{Labels.{AreDistances}, MaxJudge.{max_rows}, MinJudge.{min_rows}}
use Rattle.dimacs_judging.specs.{Optimum.{Least, Maximum, NoFlow}, PathsJudge.{AnswersAreDistances, paths_rows}}
use Rattle.dimacs_jobs.specs.{declared.jobs.JudgeKind.{JudgeKind}, declared.status.Status.{Status}}
use Rattle.dimacs_jobs.specs.declared.jobs.JudgeKind.TheVariants.{Max, Min, Infeasible, Paths}
use Rattle.dimacs_runs.specs.{Runs.{FaultOr}, Judgings.{VerdictOr}}
use Rattle.dimacs_runs.specs.Verdicts.{max_line, min_line, infeasible_line, sources_line, answer_line}
use Rattle.dimacs_records.specs.declared.kinds.TextKind.TheVariants as kinds

-- the number of sources, or a line for each pair
abbrev pub paths_lines : List BlockValue → QueriesValue → List ℕ
paths_lines blocks (Sources ids) = sources_line (length ids)
paths_lines blocks (Pairs pairs) = flat_map answer_line (map (answer_to blocks) pairs)

-- the report on the texts: a flow with a cut or with potentials, a set of nodes without a claim, or queries with labels
abbrev pub Judged : JudgeKind → List ℕ → List ℕ → List ℕ → Status → List ℕ → Type 0
Judged Max instance claim certificate =
    FaultOr kinds.Max GivesMax instance (λ i.
    FaultOr kinds.Solution GivesSolution claim (λ s.
    FaultOr kinds.Cut GivesCut certificate (λ c.
    VerdictOr (max_rows i s c) (Maximum i (claimed_flow i.arcs s.entries)) (max_line s.value))))
Judged Min instance claim certificate =
    FaultOr kinds.Min GivesMin instance (λ i.
    FaultOr kinds.Solution GivesSolution claim (λ s.
    FaultOr kinds.Potentials GivesPotentials certificate (λ p.
    VerdictOr (min_rows i s p) (Least i (claimed_flow i.arcs s.entries)) (min_line s.value))))
Judged Infeasible instance claim certificate =
    FaultOr kinds.Min GivesMin instance (λ i.
    FaultOr kinds.Cut GivesCut certificate (λ c.
    VerdictOr (infeasible_rows i c) (NoFlow i) infeasible_line))
Judged Paths instance claim certificate =
    FaultOr kinds.Graph GivesGraph instance (λ g.
    FaultOr kinds.Queries GivesQueries claim (λ q.
    FaultOr kinds.Labels GivesLabels certificate (λ l.
    VerdictOr (paths_rows g q l) (AreDistances g.arcs l.blocks × AnswersAreDistances g.arcs l.blocks q) (paths_lines l.blocks q))))

abbrev pub instance_kind : JudgeKind → TextKind
instance_kind Max = kinds.Max
instance_kind Paths = kinds.Graph
instance_kind kind = kinds.Min

abbrev pub claim_kind : JudgeKind → Option TextKind
claim_kind Infeasible = None
claim_kind Paths = Some kinds.Queries
claim_kind kind = Some kinds.Solution

-- the bytes of the claim, if there is one
abbrev pub IsClaim : JudgeKind → Option (List ℕ) → List ℕ → Type 0
IsClaim kind coming bytes = IsSome (claim_kind kind) → coming ≡ Some bytes
