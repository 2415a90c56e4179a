-- What was done with files, as far as it is known.
use Rattle.std.specs.Prelude.{ℕ, ◌++◌, ◌==◌, ◌≡◌, if◌then◌else◌, List, [], ◌∷◌, Option, None, Some, Result, Ok, Err}
use Rattle.std.specs.List.{flat_map}
use Rattle.dimacs_lines.specs.Devices.{Written, one_more}
use Rattle.dimacs_runs.specs.declared.failure.FileCall.{FileCall}
use Rattle.dimacs_jobs.specs.{declared.status.RunError.{RunError}, declared.status.RunError.TheVariants.{Device}}
use Rattle.dimacs_runs.specs.declared.failure.FileCall.TheVariants as calls

-- a file that was read and closed, with its faults
pub record ReadFile : Type 0 where
  pub name : List ℕ
  pub faults : ℕ

-- a file that was written and closed, with the bytes it accepted and its faults
pub record WrittenFile : Type 0 where
  pub name : List ℕ
  pub seen : Written

-- an event: a file was opened, or not; created (or emptied), or not; closed after reading or after writing
pub data FileEvent : Type 0 where
  Opened : List ℕ → FileEvent
  NotOpened : List ℕ → RunError → FileEvent
  Created : List ℕ → FileEvent
  NotCreated : List ℕ → RunError → FileEvent
  Read : ReadFile → FileEvent
  Wrote : WrittenFile → FileEvent

-- the event of a call that opens the file, and of one that creates it, by the call's result
abbrev pub opening : {X : Type 0} → Result X RunError → List ℕ → FileEvent
opening (Ok file) name = Opened name
opening (Err error) name = NotOpened name error

abbrev pub creating : {X : Type 0} → Result X RunError → List ℕ → FileEvent
creating (Ok file) name = Created name
creating (Err error) name = NotCreated name error

-- the event of closing a file after reading it with this many faults; after writing it
abbrev pub closed_read : List ℕ → ℕ → FileEvent
closed_read name faults = Read (record { name = name; faults = faults })

abbrev pub closed_written : List ℕ → Written → FileEvent
closed_written name seen = Wrote (record { name = name; seen = seen })

-- the failed operation and the file's name, if a closed file has faults or a file could not be opened or created
abbrev pub failures : FileEvent → List (FileCall × List ℕ)
failures (NotOpened name Device) = (calls.Open, name) ∷ []
failures (NotCreated name Device) = (calls.Create, name) ∷ []
failures (Read file) = if file.faults == 0 then [] else (calls.Read, file.name) ∷ []
failures (Wrote file) = if file.seen.faults == 0 then [] else (calls.Write, file.name) ∷ []
failures event = []

-- what was done with files, if that is known, and the number of failures, a `u64` that wraps
pub record FilesSeen : Type 0 where
  pub done : Option (List FileEvent)
  pub faults : ℕ

-- what was done after these events; if it wasn't known before, it isn't known then
abbrev pub after_events : Option (List FileEvent) → List FileEvent → Option (List FileEvent)
after_events None events = None
after_events (Some earlier) events = Some (earlier ++ events)

-- one more fault for each failure
abbrev pub faults_after : {X : Type 0} → ℕ → List X → ℕ
faults_after faults [] = faults
faults_after faults (failure ∷ more) = faults_after (one_more faults) more

-- these events happened, and nothing else
pub record Sees (events : List FileEvent) (old new : FilesSeen) : Type 0 where
  pub done : new.done ≡ after_events old.done events
  pub faults : new.faults ≡ faults_after old.faults (flat_map failures events)
