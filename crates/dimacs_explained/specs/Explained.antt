-- What `explain` does beside the run that it explains.
use Rattle.std.specs.Prelude.{ℕ, ◌≡◌, ◌⊎◌, ◌++◌, [], ◌∷◌, Bool, true, false, List, Option, Result, Ok, Err}
use Rattle.dimacs_lines.specs.Devices.{Written, after_piece}
use Rattle.dimacs_runs.specs.declared.failure.CommandError.{CommandError}
use Rattle.dimacs_runs.specs.declared.failure.CommandError.TheVariants.{Device}
use Rattle.dimacs_runs.specs.declared.failure.Failure.TheVariants.{Output}
use Rattle.dimacs_runs.specs.Commands.{Contents, RunsJob, Seen, output_faults, seen_by}
use Rattle.dimacs_jobs.specs.{declared.jobs.Job.{Job}, declared.jobs.Verb.{Verb}, declared.status.Status.{Status}}
use Rattle.dimacs_jobs.specs.declared.status.Status.TheVariants.{Done}
use Rattle.dimacs_jobs.specs.declared.jobs.Verb.TheVariants.{Convert, Show, Spread}

-- all is explained, but not that a run which makes no claim is done
abbrev pub is_explained : Verb → Status → Bool
is_explained (Convert kind) Done = false
is_explained (Show kind) Done = false
is_explained (Spread kind) Done = false
is_explained verb status = true

-- no byte, or the last is a line end
abbrev pub EndsLine : List ℕ → Type 0
EndsLine bytes = (bytes ≡ []) ⊎ ((front : List ℕ) × (bytes ≡ front ++ 10 ∷ []))

-- an explanation ended like this: the run's status is the end, or a failure of the output, which accepted more bytes
pub record MayFollow (status : Status) (ended : Result Status CommandError) (old new : Written) : Type 0 where
  pub end : (ended ≡ Ok status) ⊎ (ended ≡ Err (Device Output))
  pub faults : new.faults ≡ output_faults ended old.faults
  pub more : List ℕ
  pub accepted : new.accepted ≡ after_piece old.accepted more
  pub whole : ended ≡ Ok status → EndsLine more

-- without an explanation the run's status is the end, and the output is as it was
abbrev pub EndsWith : Bool → Status → Result Status CommandError → Written → Written → Type 0
EndsWith true status ended old new = MayFollow status ended old new
EndsWith false status ended old new = (ended ≡ Ok status) × (new ≡ old)

-- only a run without an error is explained
abbrev pub FollowedBy : Job → Result Status CommandError → Result Status CommandError → Written → Written → Type 0
FollowedBy job (Ok status) ended old new = EndsWith (is_explained job.verb status) status ended old new
FollowedBy job (Err error) ended old new = (ended ≡ Err error) × (new ≡ old)

-- the job ran, and did all that was done with the files to write; its output may be followed by an explanation
abbrev pub Explains : Job → Contents → Option (List ℕ) → Result Status CommandError → Seen → Seen → Type 0
Explains job holds empty ended old new =
    (ran : Result Status CommandError) × (output : Written) × RunsJob job holds empty ran old (seen_by new.files output) × FollowedBy job ran ended output new.output

-- the report, then lines that explain it, if the end of the job may have such
abbrev pub IsExplained : Job → Status → List ℕ → List ℕ → Type 0
IsExplained job status report printed =
    (lines : List ℕ) × (printed ≡ report ++ lines) × EndsLine lines × (is_explained job.verb status ≡ false → lines ≡ [])
