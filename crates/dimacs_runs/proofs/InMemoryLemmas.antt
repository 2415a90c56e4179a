-- What a run over texts in memory keeps of an outcome.
use Rattle.std.proofs.Common.{◌≡◌, ◌++◌, ℕ, List, [], ◌∷◌, Option, None, Some, Result, Ok, Err, inl, inr, refl, subst}
use Rattle.std.specs.Prelude.{◌≢◌, IfOk, IfSome}
use Rattle.dimacs_lines.specs.declared.device.Memory.{Memory}
use Rattle.dimacs_runs.specs.{declared.in_memory.Ran.{Ran}, Runs.{ReportsAlone}, declared.outcome.Outcome.{Outcome}}
use Rattle.dimacs_runs.specs.{Judged.{Judged}, declared.outcome.OutputText.{OutputText}, Outputs.{MayWrite}}
use Rattle.dimacs_runs.specs.{declared.outcome.OutputText.TheVariants.{Nothing}, Solved.{AreQueries, Solved}}
use Rattle.dimacs_runs.specs.InMemory.{Made, MakesJudged, MakesOne, MakesSolved, MakesTwo, OnlyReports}
use Rattle.dimacs_runs.specs.inside.Outcomes.{IfEnds, Keeps, KeepsReport, MayReport, outcome_texts, shown_texts, text_bytes}
use Rattle.dimacs_runs.specs.{Reports.{report_lines}, inside.Reports.{report_status}}
use Rattle.dimacs_jobs.specs.{declared.jobs.JudgeKind.{JudgeKind}, declared.jobs.SolveJob.{SolveJob}}
use Rattle.dimacs_jobs.specs.{declared.status.RunError.{RunError}, declared.status.Status.{Status}}
use Rattle.dimacs_jobs.specs.declared.jobs.JudgeKind.TheVariants as judges
use Rattle.dimacs_jobs.specs.declared.jobs.SolveJob.TheVariants as solves

-- what was kept of an outcome is possible
kept_ends : {O : Type 0} (texts : Outcome → O) (possible : Status → O → Type 0) (outcome : Result Outcome RunError) (status : Status) (out : O)
    → IfEnds texts possible outcome → Keeps texts outcome status out → possible status out
kept_ends texts possible (Ok o) status out may keeps = rw (keeps.0, keeps.1) may
kept_ends texts possible (Err error) status out may keeps = absurd keeps

abbrev pub IfRan : Result Ran Memory → Made → Type 0
IfRan result made = IfOk result (λ ran. made ran.status ran.made.bytes ran.more.bytes ran.printed.bytes)

pub one_made : (writes : Status → List (List ℕ) → Type 0) (outcome : Result Outcome RunError) (result : Result Ran Memory) → IfEnds shown_texts writes outcome
    → IfOk result (λ ran. Keeps shown_texts outcome ran.status (ran.made.bytes ∷ ran.printed.bytes ∷ [])) → IfOk result (λ ran. ran.more.bytes ≡ []) → IfRan result (MakesOne writes)
one_made writes outcome (Ok ran) may keeps one = (kept_ends shown_texts writes outcome ran.status _ may keeps, one)
one_made writes outcome (Err error) may keeps one = tt

two_made : (writes : Status → List (List ℕ) → Type 0) (outcome : Result Outcome RunError) (result : Result Ran Memory) → IfEnds outcome_texts writes outcome
    → IfOk result (λ ran. Keeps outcome_texts outcome ran.status (ran.made.bytes ∷ ran.more.bytes ∷ ran.printed.bytes ∷ [])) → IfRan result (MakesTwo writes)
two_made writes outcome (Ok ran) may keeps = kept_ends outcome_texts writes outcome ran.status _ may keeps
two_made writes outcome (Err error) may keeps = tt

pub only_reported : (writes : Status → List ℕ → Type 0) (outcome : Result Outcome RunError) (result : Result Ran Memory) → MayReport writes outcome
    → IfOk result (λ ran. Keeps (λ o. report_lines o.report) outcome ran.status ran.printed.bytes) → IfOk result (λ ran. (ran.made.bytes ≡ []) × (ran.more.bytes ≡ []))
    → IfRan result (OnlyReports writes)
only_reported writes outcome (Ok ran) may keeps alone = (kept_ends (λ o. report_lines o.report) (ReportsAlone writes) outcome ran.status _ may keeps, alone.0, alone.1)
only_reported writes outcome (Err error) may keeps alone = tt

-- distances come without what a solver made
without_made : (writes : Status → List (List ℕ) → Type 0) (outcome : Result Outcome RunError) → IfOk outcome (λ o. o.made ≡ Nothing) → IfEnds outcome_texts writes outcome
    → IfEnds shown_texts (λ status out. writes status ([] ∷ out)) outcome
without_made writes (Ok o) none may = subst (λ (made : OutputText). writes (report_status o.report) (text_bytes made ∷ shown_texts o)) none may
without_made writes (Err error) none may = tt

-- what each job makes, by what it reads and solves
pub claim_judged : (kind : JudgeKind) (a b c : List ℕ) (result : Result Ran Memory) → kind ≢ judges.Infeasible → IfRan result (OnlyReports (Judged kind a b c)) → IfRan result (MakesJudged kind a b c)
claim_judged judges.Max a b c result other reports = reports
claim_judged judges.Min a b c result other reports = reports
claim_judged judges.Infeasible a b c result other reports = absurd (other refl)
claim_judged judges.Paths a b c result other reports = reports

pub distances_made : (a b : List ℕ) (outcome : Result Outcome RunError) (result : Result Ran Memory) → IfOk outcome (λ o. o.made ≡ Nothing)
    → IfEnds outcome_texts (MayWrite (Solved solves.Paths a b)) outcome → IfOk result (λ ran. Keeps shown_texts outcome ran.status (ran.made.bytes ∷ ran.printed.bytes ∷ []))
    → IfOk result (λ ran. ran.more.bytes ≡ []) → IfRan result (MakesSolved solves.Paths a b)
distances_made a b outcome result none may keeps one =
    let writes = MayWrite (Solved solves.Paths a b) in
    one_made (λ status out. writes status ([] ∷ out)) outcome result (without_made writes outcome none may) keeps one

pub flow_made : (job : SolveJob) (a b : List ℕ) (outcome : Result Outcome RunError) (result : Result Ran Memory) → job ≢ solves.Paths
    → IfEnds outcome_texts (MayWrite (Solved job a b)) outcome → IfOk result (λ ran. Keeps outcome_texts outcome ran.status (ran.made.bytes ∷ ran.more.bytes ∷ ran.printed.bytes ∷ []))
    → IfRan result (MakesSolved job a b)
flow_made (solves.Max limit) a b outcome result other may keeps = two_made (MayWrite (Solved (solves.Max limit) a b)) outcome result may keeps
flow_made (solves.Min limit) a b outcome result other may keeps = two_made (MayWrite (Solved (solves.Min limit) a b)) outcome result may keeps
flow_made solves.Paths a b outcome result other may keeps = absurd (other refl)

-- queries are asked for, or nothing is
pub asks_two : (job : SolveJob) (coming : Option (List ℕ)) (bytes : List ℕ) → coming ≡ Some bytes → AreQueries job coming bytes
asks_two (solves.Max limit) coming bytes is = tt
asks_two (solves.Min limit) coming bytes is = tt
asks_two solves.Paths coming bytes is = is

-- what was kept as a text was printed to an empty sink in memory reports all that was printed
pub kept_printed : (old new : List ℕ) (before after : ℕ) (kept : Option Outcome) → old ≡ []
    → KeepsReport (record { accepted = Some old; faults = before }) (record { accepted = Some new; faults = after }) None kept → IfSome kept (λ (o : Outcome). report_lines o.report ≡ new)
kept_printed old new before after kept empty (inl none) = rw none tt
kept_printed old new before after kept empty (inr (o, is, accepted)) = let same : new ≡ old ++ report_lines o.report = cc in rw (is, same, empty) refl
