-- Inside: what calls over arrays hand out, and their ends.
use Rattle.std.specs.Prelude.{ℕ, ℤ, ◌≡◌, ◌⊎◌, [], List, Result, Ok, Err, pos}
use Rattle.dimacs_lines.specs.declared.device.DeviceFault.{DeviceFault}
use Rattle.dimacs_arrays.specs.{declared.error.ArrayError.{ArrayError}, declared.solution.ClaimedFlow.{ClaimedFlow}}
use Rattle.dimacs_runs.specs.{Refusals.{refusal_line}, Verdicts.{failure_line, gave_up_line, verdict_lines}}
use Rattle.dimacs_c.specs.{ArrayTexts.{value_read}, Arrays.{Printed, error_line, error_status}}
use Rattle.dimacs_c.specs.{Calls.{Handed, HandsNothing, HandsOut}, declared.lines.Line.{Line}}
use Rattle.dimacs_c.specs.declared.lines.Line.TheVariants.{Read, Yes, No, Refused, GaveUp, Error}
use Rattle.dimacs_c.specs.declared.printed.Printed as printed

-- the status of a line
abbrev pub line_status : Line → ℕ
line_status Read = 0
line_status (Yes verdict) = 0
line_status (No place reason) = 1
line_status (Refused text place reason) = 1
line_status GaveUp = 5
line_status (Error error) = error_status error

abbrev pub line_text : Line → List ℕ
line_text Read = []
line_text (Yes verdict) = verdict_lines verdict
line_text (No place reason) = failure_line place reason
line_text (Refused text place reason) = refusal_line text.now place.line place.field reason
line_text GaveUp = gave_up_line
line_text (Error error) = error_line error

-- a line and items, with the line's status
abbrev pub parts : printed.Printed ℕ → Printed
parts found = record { status = line_status found.line; line = line_text found.line; marks = found.marks.now; numbers = found.numbers.now; amounts = found.amounts.now }

-- the text is handed out, with its status; or memory ran out
abbrev pub EndsAs : ℕ → List ℕ → ℕ → Handed ℕ → Type 0
EndsAs status text exit_status h = ((exit_status ≡ status) × HandsOut text h) ⊎ ((exit_status ≡ 4) × HandsNothing h)

-- the same for a line or a text without items
abbrev pub EndsWhole : Printed → ℕ → Handed ℕ → Type 0
EndsWhole s exit_status h = EndsAs s.status s.line exit_status h

-- the claimed value; 0 if the line wasn't written
abbrev pub value_if : Result ℕ DeviceFault → Result ClaimedFlow ArrayError → ℤ
value_if (Ok status) r = value_read r
value_if (Err fault) r = pos 0
