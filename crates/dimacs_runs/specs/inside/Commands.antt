-- Inside: what a command does with its files and its output.
use Rattle.std.specs.Prelude.{ℕ, ◌≡◌, List, [], ◌∷◌, Option, None, Some, Result, Ok, Err, drop, take}
use Rattle.dimacs_runs.specs.{declared.failure.CommandError.{CommandError}, declared.failure.Failure.{Failure}}
use Rattle.dimacs_runs.specs.declared.failure.CommandError.TheVariants.{Device, Memory}
use Rattle.dimacs_runs.specs.{declared.failure.Failure.TheVariants.{File, Output}, declared.failure.FileCall.{FileCall}}
use Rattle.dimacs_runs.specs.Commands.{Plan, faults_by_error, file_failures}
use Rattle.dimacs_runs.specs.Files.{FileEvent, FilesSeen, Sees, failures}
use Rattle.dimacs_jobs.specs.declared.status.RunError.{RunError}
use Rattle.dimacs_jobs.specs.declared.status.RunError.TheVariants as run_errors

abbrev pub reads : List (List ℕ) → Plan
reads names = record { opened = names; created = [] }

-- the first `count` files are read, the others written
abbrev pub reads_first : ℕ → List (List ℕ) → Plan
reads_first count names = record { opened = take count names; created = drop count names }

-- the end of a run over files, with the failed operation, if there is one
abbrev pub named : {X : Type 0} → Result X RunError → Option Failure → Result X CommandError
named (Ok x) failure = Ok x
named (Err run_errors.Device) None = Err (Device Output)
named (Err run_errors.Device) (Some failure) = Err (Device failure)
named (Err run_errors.Memory) failure = Err Memory

-- this is the first of these failed operations
abbrev pub IsFirstOf : Option Failure → List (FileCall × List ℕ) → Type 0
IsFirstOf None all = all ≡ []
IsFirstOf (Some (File call name)) all = (rest : List (FileCall × List ℕ)) × (all ≡ (call, name.now) ∷ rest)
IsFirstOf (Some Output) all = ⊥

-- a file could not be opened or created, and the error names it
pub record FailsWith (event : RunError → FileEvent) (old new : FilesSeen) (error : CommandError) : Type 0 where
  pub cause : RunError
  pub seen : Sees (event cause ∷ []) old new
  pub failure : failures (event cause) ≡ file_failures error
  pub output : (faults : ℕ) → faults_by_error error faults ≡ faults
