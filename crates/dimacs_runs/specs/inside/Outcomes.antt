-- Inside: the outcomes of runs, their texts, and what ends a run early.
use Rattle.std.specs.Prelude.{ℕ, ℤ, ◌≡◌, ◌⊎◌, List, [], ◌∷◌, Option, None, Some, Result, Ok, Err, map}
use Rattle.dimacs_lines.specs.Devices.{Written, after_piece}
use Rattle.dimacs_claims.specs.{Cuts.{SpellsCut, canonical_cut}, Labels.{AreLabels}, LabelTexts.{canonical_labels}}
use Rattle.dimacs_claims.specs.Potentials.{SpellsPotentials, canonical_potentials}
use Rattle.dimacs_claims.specs.SolutionTexts.{SolutionValue, canonical_solution, claimed}
use Rattle.dimacs_judging.specs.{declared.verdict.JudgeError.{JudgeError}, declared.verdict.Verdict.{Verdict}}
use Rattle.dimacs_judging.specs.{declared.verdict.Where.TheVariants.{Arc}, Tests.{AllClear, FirstAlone, Refuses}}
use Rattle.dimacs_records.specs.{declared.faults.ReadError.{ReadError}, declared.kinds.TextKind.{TextKind}}
use Rattle.dimacs_network.specs.declared.network.ArcView.{ArcView}
use Rattle.dimacs_solve.specs.{declared.error.SolveError.{SolveError}, declared.maximum.MaxAnswer.{MaxAnswer}}
use Rattle.dimacs_solve.specs.{declared.least.MinAnswer.{MinAnswer}, Spread.{Deals, spread_rows}}
use Rattle.dimacs_jobs.specs.{declared.jobs.SpreadKind.{SpreadKind}, declared.status.Status.{Status}}
use Rattle.dimacs_jobs.specs.declared.status.RunError.{RunError}
use Rattle.dimacs_jobs.specs.declared.status.RunError.TheVariants.{Device, Memory}
use Rattle.dimacs_runs.specs.{Spread.{IsBestOf}, declared.outcome.OutputText.{OutputText}, Judgings.{OneMore}}
use Rattle.dimacs_runs.specs.{declared.outcome.Outcome.{Outcome}, declared.report.Report.{Report}, Runs.{ReportsAlone}}
use Rattle.dimacs_runs.specs.declared.outcome.OutputText.TheVariants.{Nothing, Solution, Cut, Potentials, Labels}
use Rattle.dimacs_runs.specs.{declared.early_end.EarlyEnd.{EarlyEnd}, declared.early_end.EarlyEnd.TheVariants.{Error}}
use Rattle.dimacs_runs.specs.{Outputs.{AcceptAll, AcceptInTurn, MayWrite, WritesAlike}, Reports.{report_lines}}
use Rattle.dimacs_runs.specs.inside.Reports.{report_status}
use Rattle.dimacs_judging.specs.declared.verdict.JudgeError.TheVariants as judge_errors
use Rattle.dimacs_judging.specs.declared.verdict.Verdict.TheVariants as verdicts
use Rattle.dimacs_records.specs.declared.faults.ReadError.TheVariants as read_errors
use Rattle.dimacs_records.specs.declared.reasons.Reason.TheVariants as reasons
use Rattle.dimacs_solve.specs.declared.error.SolveError.TheVariants as solve_errors
use Rattle.dimacs_solve.specs.declared.maximum.MaxAnswer.TheVariants as max_answers
use Rattle.dimacs_solve.specs.declared.least.MinAnswer.TheVariants as min_answers
use Rattle.dimacs_runs.specs.declared.report.Report.TheVariants as reports
use Rattle.dimacs_runs.specs.declared.early_end.EarlyEnd.TheVariants as ends

-- the bytes of a text
abbrev pub text_bytes : OutputText → List ℕ
text_bytes Nothing = []
text_bytes (Solution solution) = canonical_solution (claimed solution)
text_bytes (Cut cut) = canonical_cut cut
text_bytes (Potentials potentials) = canonical_potentials potentials
text_bytes (Labels labels) = canonical_labels labels

-- the text of what shows the answer spells it; labels are lawful, so theirs does if they fit a text
abbrev pub IsReadable : OutputText → Type 0
IsReadable Nothing = Unit {0}
IsReadable (Solution solution) = Unit {0}
IsReadable (Cut cut) = SpellsCut (canonical_cut cut) cut
IsReadable (Potentials potentials) = SpellsPotentials (canonical_potentials potentials) potentials
IsReadable (Labels labels) = AreLabels labels

-- the text that shows the answer and the report, and all texts, with what a solver made
abbrev pub shown_texts : Outcome → List (List ℕ)
shown_texts o = text_bytes o.shown ∷ report_lines o.report ∷ []

abbrev pub outcome_texts : Outcome → List (List ℕ)
outcome_texts o = text_bytes o.made ∷ shown_texts o

-- a report with what shows it, and a report alone
abbrev pub with_text : OutputText → Report → Outcome
with_text shown report = record { made = Nothing; shown = shown; report = report }

abbrev pub reporting : Report → Outcome
reporting report = with_text Nothing report

-- what sinks have accepted, and how often each has failed
abbrev pub accepted_by : List Written → List (Option (List ℕ))
accepted_by sinks = map (λ (sink : Written). sink.accepted) sinks

abbrev pub faults_by : List Written → List ℕ
faults_by sinks = map (λ (sink : Written). sink.faults) sinks

-- a sink that keeps no byte
abbrev pub nowhere : Written
nowhere = record { accepted = None; faults = 0 }

-- the end of a run that has this outcome or error to write
abbrev pub EndsWriting : Result Outcome RunError → Result Status RunError → List Written → List Written → Type 0
EndsWriting (Ok o) (Ok status) old new =
    (status ≡ report_status o.report) × AcceptAll (outcome_texts o) (accepted_by old) (accepted_by new) × (faults_by new ≡ faults_by old)
EndsWriting (Ok o) (Err error) old new =
    (error ≡ Device) × AcceptInTurn (outcome_texts o) (accepted_by old) (accepted_by new) × OneMore (faults_by old) (faults_by new)
EndsWriting (Err error) result old new = (result ≡ Err error) × (new ≡ old)

-- these are the texts of an outcome, and its status
abbrev pub Keeps : {O : Type 0} → (Outcome → O) → Result Outcome RunError → Status → O → Type 0
Keeps texts (Ok o) status out = (status ≡ report_status o.report) × (out ≡ texts o)
Keeps texts (Err error) status out = ⊥

-- nothing more was kept, or an outcome whose report is all that was written
abbrev pub KeepsReport : Written → Written → Option Outcome → Option Outcome → Type 0
KeepsReport old new kept more = (more ≡ kept) ⊎ ((o : Outcome) × (more ≡ Some o) × (new.accepted ≡ after_piece old.accepted (report_lines o.report)))

-- why a run stops: a text of this kind can't be read, or a judge or a solver has an error
abbrev pub unread_end : TextKind → ReadError → EarlyEnd
unread_end kind (read_errors.Refused place reason) = ends.Report (reports.Refused kind place reason)
unread_end kind read_errors.Device = Error Device
unread_end kind read_errors.Memory = Error Memory

abbrev pub judge_end : JudgeError → EarlyEnd
judge_end (judge_errors.Refused place reason) = ends.Report (reports.No place reason)
judge_end judge_errors.Memory = Error Memory

abbrev pub solve_end : SolveError → EarlyEnd
solve_end (solve_errors.NegativeWeight arc) = ends.Report (reports.No (Arc arc) reasons.NegativeWeight)
solve_end (solve_errors.Refused place reason) = ends.Report (reports.No place reason)
solve_end solve_errors.Memory = Error Memory

-- a report that ended a run early is its outcome
abbrev pub outcome_of : Result Outcome EarlyEnd → Result Outcome RunError
outcome_of (Ok outcome) = Ok outcome
outcome_of (Err (ends.Report report)) = Ok (reporting report)
outcome_of (Err (Error error)) = Err error

-- the outcomes of a judge's answer, and of the answers of the solvers of flows
abbrev pub judge_outcome : Result Verdict JudgeError → Result Outcome EarlyEnd
judge_outcome (Ok verdict) = Ok (reporting (reports.Yes verdict))
judge_outcome (Err error) = Err (judge_end error)

abbrev pub maximum_outcome : Result MaxAnswer SolveError → Result Outcome EarlyEnd
maximum_outcome (Ok (max_answers.Optimal solution cut)) =
    Ok (record { made = Solution solution; shown = Cut cut; report = reports.Yes (verdicts.Max solution.value) })
maximum_outcome (Ok max_answers.GaveUp) = Ok (reporting reports.GaveUp)
maximum_outcome (Err error) = Err (solve_end error)

abbrev pub least_outcome : Result MinAnswer SolveError → Result Outcome EarlyEnd
least_outcome (Ok (min_answers.Optimal solution potentials)) =
    Ok (record { made = Solution solution; shown = Potentials potentials; report = reports.Yes (verdicts.Min solution.value) })
least_outcome (Ok (min_answers.Infeasible set)) = Ok (with_text (Cut set) (reports.Yes verdicts.Infeasible))
least_outcome (Ok min_answers.GaveUp) = Ok (reporting reports.GaveUp)
least_outcome (Err error) = Err (solve_end error)

-- if there is an outcome, its status is possible together with these texts of it
abbrev pub IfEnds : {O E : Type 0} → (Outcome → O) → (Status → O → Type 0) → Result Outcome E → Type 0
IfEnds texts possible (Ok o) = possible (report_status o.report) (texts o)
IfEnds texts possible (Err error) = Unit {0}

-- the report is the only possible one; all texts are possible; those without what a solver made are
abbrev pub MayReport : (Status → List ℕ → Type 0) → Result Outcome RunError → Type 0
MayReport reports = IfEnds (λ o. report_lines o.report) (ReportsAlone reports)

abbrev pub MaySolve : (Status → List (List ℕ) → Type 0) → Result Outcome RunError → Type 0
MaySolve writes = IfEnds outcome_texts (MayWrite writes)

abbrev pub MayCertify : (Status → List (List ℕ) → Type 0) → Result Outcome RunError → Type 0
MayCertify writes = IfEnds shown_texts (WritesAlike writes)

-- a flow that deals out a claim, or why there is none
abbrev pub DealsOut : SpreadKind → List ArcView → SolutionValue → Result (List ℤ) JudgeError → Type 0
DealsOut kind arcs s (Ok x) = AllClear (spread_rows arcs s.entries) × Deals arcs s.entries x × IsBestOf kind arcs s x
DealsOut kind arcs s (Err error) = Refuses (FirstAlone (spread_rows arcs s.entries)) error
