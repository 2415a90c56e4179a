-- Inside: the end of a call whose text wasn't read, or didn't fit.
use Rattle.std.specs.Prelude.{ℕ, ◌≡◌, List}
use Rattle.dimacs_records.specs.declared.faults.ReadError.{ReadError}
use Rattle.dimacs_records.specs.declared.faults.ReadError.TheVariants.{Refused, Device, Memory}
use Rattle.dimacs_judging.specs.declared.verdict.Where.TheVariants.{Node}
use Rattle.dimacs_fill.specs.{declared.error.FillError.{FillError}, declared.error.FillError.TheVariants.{Unread}}
use Rattle.dimacs_runs.specs.{Refusals.{refusal_line}, Verdicts.{failure_line}}
use Rattle.dimacs_c.specs.{Calls.{Handed, HandsNothing}, inside.Printed.{EndsAs}}
use Rattle.dimacs_fill.specs.declared.error.FillError.TheVariants as fills

-- the line of the fault is handed out, with its status; or memory ran out
abbrev pub EndsUnread : List ℕ → ReadError → ℕ → Handed ℕ → Type 0
EndsUnread text (Refused place reason) exit_status h = EndsAs 1 (refusal_line text place.line place.field reason) exit_status h
EndsUnread text Device exit_status h = (exit_status ≡ 4) × HandsNothing h
EndsUnread text Memory exit_status h = (exit_status ≡ 4) × HandsNothing h

-- the same, or the line of the node that is refused
abbrev pub EndsUnfilled : List ℕ → FillError → ℕ → Handed ℕ → Type 0
EndsUnfilled text (Unread error) exit_status h = EndsUnread text error exit_status h
EndsUnfilled text (fills.Node id reason) exit_status h = EndsAs 1 (failure_line (Node id) reason) exit_status h
