-- The exit statuses of the command, and its complaints on the standard error.
use Rattle.std.specs.Prelude.{ℕ, ◌==◌, if◌then◌else◌, List, Option, None, Some, Result, Ok, Err, codes}
use Rattle.dimacs_jobs.specs.{declared.status.RunError.{RunError}, declared.status.Status.{Status}}
use Rattle.dimacs_jobs.specs.declared.status.RunError.TheVariants.{Device, Memory}
use Rattle.dimacs_jobs.specs.declared.status.Status.TheVariants.{Done, Refused, GaveUp}

abbrev pub status_number : Result Status RunError → ℕ
status_number (Ok Done) = 0
status_number (Ok Refused) = 1
status_number (Ok GaveUp) = 5
status_number (Err Device) = 3
status_number (Err Memory) = 4

-- the lines for wrong usage, an I/O error and out of memory
abbrev pub complaint_of : ℕ → Option (List ℕ)
complaint_of status =
    if status == 2 then Some (codes "dimacs: usage")
    else if status == 3 then Some (codes "dimacs: device fault")
    else if status == 4 then Some (codes "dimacs: out of memory")
    else None
