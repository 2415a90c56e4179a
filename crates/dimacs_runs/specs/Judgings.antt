-- What judges report on texts.
use Rattle.std.specs.Prelude.{ℕ, ◌≡◌, ◌⊎◌, List, [], ◌∷◌, Result, Ok, Err}
use Rattle.dimacs_lines.specs.Devices.{one_more}
use Rattle.dimacs_records.specs.declared.reasons.Reason.{Reason}
use Rattle.dimacs_judging.specs.{declared.verdict.Where.{Where}, Tests.{AllClear, Row, First}}
use Rattle.dimacs_jobs.specs.{declared.status.Status.{Status}, declared.status.RunError.{RunError}}
use Rattle.dimacs_jobs.specs.declared.status.Status.TheVariants.{Done, Refused, GaveUp}
use Rattle.dimacs_jobs.specs.declared.status.RunError.TheVariants.{Device, Memory}
use Rattle.dimacs_runs.specs.Verdicts.{failure_line}

-- all tests pass, the claim is true, and the report is the verdict; or the report is the line of the first test that fails
abbrev pub VerdictOr : List Row → Type 0 → List ℕ → Status → List ℕ → Type 0
VerdictOr rows claim verdict Done out = AllClear rows × claim × (out ≡ verdict)
VerdictOr rows claim verdict Refused out = (place : Where) × (reason : Reason) × First rows place reason × (out ≡ failure_line place reason)
VerdictOr rows claim verdict GaveUp out = ⊥

-- one count of faults is one more, and the others are the same
abbrev pub OneMore : List ℕ → List ℕ → Type 0
OneMore [] new = ⊥
OneMore (faults ∷ old) [] = ⊥
OneMore (faults ∷ old) (counted ∷ new) = ((counted ≡ one_more faults) × (new ≡ old)) ⊎ ((counted ≡ faults) × OneMore old new)

-- one device has one more fault if the result is an I/O error; otherwise none has
abbrev pub CountsDevices : {X : Type 0} → Result X RunError → List ℕ → List ℕ → Type 0
CountsDevices (Ok x) old new = new ≡ old
CountsDevices (Err Memory) old new = new ≡ old
CountsDevices (Err Device) old new = OneMore old new
