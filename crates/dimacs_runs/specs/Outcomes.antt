-- The exit status of a command, and the words for failures.
use Rattle.std.specs.Prelude.{ℕ, List, Option, None, Some, Result, Ok, Err, codes}
use Rattle.dimacs_runs.specs.{declared.failure.CommandError.{CommandError}, declared.failure.Failure.{Failure}}
use Rattle.dimacs_runs.specs.declared.failure.Failure.TheVariants.{File, Output}
use Rattle.dimacs_jobs.specs.{declared.status.Status.{Status}, Outcomes.{status_number}}
use Rattle.dimacs_jobs.specs.declared.status.RunError.TheVariants.{Device, Memory}
use Rattle.dimacs_runs.specs.declared.failure.CommandError.TheVariants as errors
use Rattle.dimacs_runs.specs.declared.failure.FileCall.TheVariants as calls

-- none if the arguments asked for no run
abbrev pub command_number : Option (Result Status CommandError) → ℕ
command_number None = 2
command_number (Some (Ok status)) = status_number (Ok status)
command_number (Some (Err (errors.Device failure))) = status_number (Err Device)
command_number (Some (Err errors.Memory)) = status_number (Err Memory)

-- the name of the device that failed
abbrev pub failed_device : Failure → List ℕ
failed_device (File call name) = name.now
failed_device Output = codes "standard output"

-- what could not be done, in words
abbrev pub failed_call : Failure → List ℕ
failed_call (File calls.Open name) = codes "cannot be opened"
failed_call (File calls.Create name) = codes "cannot be created"
failed_call (File calls.Read name) = codes "cannot be read"
failed_call (File calls.Write name) = codes "cannot be written"
failed_call Output = codes "cannot be written"
