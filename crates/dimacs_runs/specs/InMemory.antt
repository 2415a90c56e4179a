-- What a run makes of texts in memory, the text that it refuses, and what it keeps.
use Rattle.std.specs.Prelude.{ℕ, ◌≡◌, ◌++◌, List, [], ◌∷◌, Some, IfSome, codes, slice_get, take}
use Rattle.dimacs_jobs.specs.{declared.jobs.JudgeKind.{JudgeKind}, declared.jobs.Verb.{Verb}, Jobs.{texts_of}}
use Rattle.dimacs_jobs.specs.{declared.jobs.SolveJob.{SolveJob}, declared.status.Status.{Status}}
use Rattle.dimacs_jobs.specs.declared.jobs.Verb.TheVariants.{Convert, Show, Judge, Certify, Spread, Solve}
use Rattle.dimacs_records.specs.{declared.kinds.TextKind.{TextKind}, declared.kinds.TextKind.TheVariants.{Solution}}
use Rattle.dimacs_records.specs.declared.reasons.Reason.{Reason}
use Rattle.dimacs_records.specs.declared.reasons.Reason.TheVariants.{ProblemMissing, SolutionMissing}
use Rattle.dimacs_runs.specs.{Certified.{Certified}, Judged.{Judged}, Solved.{Solved}, Outputs.{MayWrite, WritesAlike}}
use Rattle.dimacs_runs.specs.{declared.text.TextForm.TheVariants.{Canonical, Summary}, Spread.{Spreads}}
use Rattle.dimacs_runs.specs.{Refusals.{refusal_line}, Runs.{Prints, ReportsAlone, text_word}, Reports.{report_lines}}
use Rattle.dimacs_runs.specs.{declared.in_memory.Ran.{Ran}, declared.outcome.Outcome.{Outcome}}
use Rattle.dimacs_jobs.specs.declared.jobs.JudgeKind.TheVariants as judges
use Rattle.dimacs_jobs.specs.declared.jobs.SolveJob.TheVariants as solves

-- from a status to texts for the first and the second file that a run creates, and its report
abbrev pub Made : Type 1
Made = Status → List ℕ → List ℕ → List ℕ → Type 0

abbrev pub OnlyReports : (Status → List ℕ → Type 0) → Made
OnlyReports writes status made more report = ReportsAlone writes status report × (made ≡ []) × (more ≡ [])

abbrev pub MakesOne : (Status → List (List ℕ) → Type 0) → Made
MakesOne writes status made more report = writes status (made ∷ report ∷ []) × (more ≡ [])

abbrev pub MakesTwo : (Status → List (List ℕ) → Type 0) → Made
MakesTwo writes status made more report = writes status (made ∷ more ∷ report ∷ [])

-- of a claim that no flow is feasible there is no text
abbrev pub MakesJudged : JudgeKind → List ℕ → List ℕ → List ℕ → Made
MakesJudged judges.Infeasible first second third = OnlyReports (Judged judges.Infeasible first [] second)
MakesJudged kind first second third = OnlyReports (Judged kind first second third)

-- distances come without a claim
abbrev pub MakesSolved : SolveJob → List ℕ → List ℕ → Made
MakesSolved solves.Paths first second = MakesOne (λ status out. MayWrite (Solved solves.Paths first second) status ([] ∷ out))
MakesSolved job first second = MakesTwo (MayWrite (Solved job first second))

-- what a verb makes of the texts for the files that it reads, in order
abbrev pub Makes : Verb → List ℕ → List ℕ → List ℕ → Made
Makes (Convert kind) first second third = OnlyReports (Prints Canonical kind first)
Makes (Show kind) first second third = OnlyReports (Prints Summary kind first)
Makes (Judge kind) first second third = MakesJudged kind first second third
Makes (Certify kind) first second third = MakesOne (WritesAlike (Certified kind first second))
Makes (Spread kind) first second third = MakesOne (WritesAlike (Spreads kind first second))
Makes (Solve job) first second third = MakesSolved job first second

-- what an empty text lacks: a solution its value, all others their problem line
abbrev pub lacking : TextKind → Reason
lacking Solution = SolutionMissing
lacking kind = ProblemMissing

-- the report refuses the text at this place, from 0, among those that a verb reads, as one of a line end alone
abbrev pub Refuses : Verb → ℕ → List ℕ → Type 0
Refuses verb place report =
    (kind : TextKind) × (slice_get (take (texts_of verb).read (texts_of verb).kinds) place ≡ Some kind) × (report ≡ refusal_line (text_word kind) 2 0 (lacking kind))

-- the outcome that was kept, if one was, reports what was printed
abbrev pub HasKept : Ran → Type 0
HasKept ran = IfSome ran.kept (λ (o : Outcome). report_lines o.report ≡ ran.printed.bytes)

-- a run over these texts, whose report isn't explained yet
abbrev pub RanOver : Verb → List ℕ → List ℕ → List ℕ → Ran → Type 0
RanOver verb first second third ran = Makes verb first second third ran.status ran.made.bytes ran.more.bytes ran.printed.bytes × HasKept ran
