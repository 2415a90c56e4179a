-- Inside: runs that read files, and then create one for their text.
use Rattle.std.specs.Prelude.{ℕ, ◌≡◌, ◌⊎◌, ◌++◌, List, [], ◌∷◌, Option, None, Some, Result, IsErr, map}
use Rattle.std.specs.List.{flat_map}
use Rattle.dimacs_lines.specs.Devices.{Written}
use Rattle.dimacs_runs.specs.{declared.failure.CommandError.{CommandError}, declared.outcome.Outcome.{Outcome}}
use Rattle.dimacs_runs.specs.{Outputs.{ReportsAll}, declared.runs_that_make.ClaimJob.{ClaimJob}}
use Rattle.dimacs_runs.specs.{inside.Outcomes.{IfEnds, shown_texts}, inside.Reports.{report_status}}
use Rattle.dimacs_runs.specs.{inside.Commands.{reads}, declared.runs_that_make.ClaimJob.TheVariants.{Certify, Spread}}
use Rattle.dimacs_runs.specs.Commands.{Contents, MakesCertificate, MakesSpread, Making, RunsOver, Seen, StopsOpening, WritesNothing, accepted_before, accepted_after, failures_named, files_for, made_events, output_faults, text_first}
use Rattle.dimacs_runs.specs.Files.{FileEvent, FilesSeen, NotCreated, Opened, Read, ReadFile, Sees, WrittenFile, failures}
use Rattle.dimacs_jobs.specs.{declared.status.RunError.{RunError}, declared.status.Status.{Status}}

-- the name, if there is one
abbrev pub names_of : {W : Type 0} → (W → List ℕ) → Option W → List (List ℕ)
names_of bytes None = []
names_of bytes (Some name) = bytes name ∷ []

-- what a run makes of an instance and a claim
abbrev pub made_for : ClaimJob → Making
made_for (Certify kind) = MakesCertificate kind
made_for (Spread kind) = MakesSpread kind

-- the outcome is written as these texts, with this status
abbrev pub IsWritten : Outcome → Status → List (List ℕ) → Type 0
IsWritten p status out = (status ≡ report_status p.report) × (out ≡ shown_texts p)

-- the files were opened, read and closed, and the outcome of their texts is possible
pub record ClosesRead (opened : List (List ℕ)) (holds : Contents) (makes : Making) (events : List FileEvent) (result : Result Outcome CommandError) : Type 0 where
  pub read : List ReadFile
  pub all_read : map (λ (file : ReadFile). file.name) read ≡ opened
  pub happened : events ≡ map Opened opened ++ map Read read
  pub possible : (texts : List (List ℕ)) → map holds opened ≡ map Some texts → IfEnds shown_texts (makes texts) result

-- the same, or one file could not be opened; the operation that the result names is the only one that failed
pub record AnswersFiles (opened : List (List ℕ)) (holds : Contents) (makes : Making) (result : Result Outcome CommandError) (old new : FilesSeen) : Type 0 where
  pub events : List FileEvent
  pub seen : Sees events old new
  pub failure : flat_map failures events ≡ failures_named result
  pub output : (faults : ℕ) → faults ≡ output_faults result faults
  pub ends : (StopsOpening (reads opened) events × IsErr result) ⊎ ClosesRead opened holds makes events result

-- only the report was written
pub record WritesReport (p : Outcome) (result : Result Status CommandError) (old new : Written) : Type 0 where
  pub reports : ReportsAll (IsWritten p) result (None ∷ old.accepted ∷ []) (None ∷ new.accepted ∷ [])
  pub failure : failures_named result ≡ []
  pub faults : new.faults ≡ output_faults result old.faults
  pub something_written : ¬ WritesNothing result

-- the file for the text could not be created, and nothing was written
pub record WritesNowhere (p : Outcome) (created : List (List ℕ)) (events : List FileEvent) (result : Result Status CommandError) (old new : Seen) : Type 0 where
  pub name : List ℕ
  pub error : RunError
  pub whole : created ≡ name ∷ []
  pub happened : events ≡ NotCreated name error ∷ []
  pub text : files_for created (shown_texts p) ≡ created
  pub failed : IsErr result
  pub nothing_written : new.output.accepted ≡ old.output.accepted

-- a file was created, if there is a text for it, written and closed
pub record WritesText (p : Outcome) (created : List (List ℕ)) (empty : Option (List ℕ)) (events : List FileEvent) (result : Result Status CommandError) (old new : Option (List ℕ)) : Type 0 where
  pub written : List WrittenFile
  pub all_written : map (λ (file : WrittenFile). file.name) written ≡ files_for created (shown_texts p)
  pub happened : events ≡ flat_map made_events written
  pub reports : ReportsAll (IsWritten p) result (text_first (accepted_before (map (λ (file : WrittenFile). file.name) written) empty old))
      (text_first (accepted_after written new))
  pub something_written : ¬ WritesNothing result

-- the outcome was written; its text goes to a file with one of these names, or nowhere
abbrev pub WritesOutcome : Outcome → List (List ℕ) → Option (List ℕ) → Result Status CommandError → Seen → Seen → Type 0
WritesOutcome p created empty result old new =
    RunsOver (λ events. WritesNowhere p created events result old new
    ⊎ WritesText p created empty events result old.output.accepted new.output.accepted) result old new
