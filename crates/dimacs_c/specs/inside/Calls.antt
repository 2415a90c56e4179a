-- Inside: the ends of calls.
use Rattle.std.specs.Prelude.{ℕ, ◌≡◌, List, Result, Ok, Err}
use Rattle.dimacs_lines.specs.declared.device.DeviceFault.{DeviceFault}
use Rattle.dimacs_jobs.specs.{declared.status.RunError.{RunError}, declared.status.Status.{Status}}
use Rattle.dimacs_jobs.specs.Outcomes.{status_number}
use Rattle.dimacs_c.specs.Calls.{Handed, HandsNothing, HandsOut}

-- the end of a call whose run ended like this and wrote this text
abbrev pub Ends : Result Status RunError → List ℕ → ℕ → Handed ℕ → Type 0
Ends (Ok s) text exit_status h = (exit_status ≡ status_number (Ok s)) × HandsOut text h
Ends (Err error) text exit_status h = (exit_status ≡ 4) × HandsNothing h

-- the end of a part of a call over arrays that wrote its line, or failed to, and hands out these items
abbrev pub EndsPrinted : {X : Type 0} → Result ℕ DeviceFault → List X → ℕ → Handed X → Type 0
EndsPrinted (Ok status) items exit_status h = (exit_status ≡ status) × HandsOut items h
EndsPrinted (Err fault) items exit_status h = (exit_status ≡ 4) × HandsNothing h
