-- What a command does with its files and its output, from its arguments to the end of its run.
use Rattle.std.specs.Prelude.{ℕ, ◌≡◌, ◌⊎◌, ◌++◌, List, [], ◌∷◌, Option, None, Some, Result, Ok, Err, IsErr, map}
use Rattle.std.specs.List.{flat_map}
use Rattle.dimacs_lines.specs.Devices.{Written, one_more}
use Rattle.dimacs_runs.specs.{declared.failure.CommandError.{CommandError}, declared.failure.FileCall.{FileCall}}
use Rattle.dimacs_runs.specs.{declared.failure.CommandError.TheVariants.{Device, Memory}, Judged.{Judged}}
use Rattle.dimacs_runs.specs.{declared.failure.Failure.TheVariants.{File, Output}, Solved.{Solved}, Spread.{Spreads}}
use Rattle.dimacs_runs.specs.{Certified.{Certified}, Runs.{Reports, Prints}}
use Rattle.dimacs_runs.specs.Files.{Created, FileEvent, FilesSeen, NotCreated, NotOpened, Opened, Read, ReadFile, Sees, WrittenFile, Wrote, closed_written, failures}
use Rattle.dimacs_runs.specs.Outputs.{MayWrite, ReportsAll, WritesAlike}
use Rattle.dimacs_runs.specs.declared.text.TextForm.TheVariants.{Canonical, Summary}
use Rattle.dimacs_jobs.specs.{declared.jobs.Job.{Job}, declared.jobs.Verb.{Verb}, declared.jobs.JudgeKind.{JudgeKind}}
use Rattle.dimacs_jobs.specs.declared.jobs.Verb.TheVariants.{Convert, Show, Judge, Certify, Spread, Solve}
use Rattle.dimacs_jobs.specs.{declared.jobs.SolveJob.{SolveJob}, declared.jobs.SpreadKind.{SpreadKind}}
use Rattle.dimacs_jobs.specs.{declared.status.RunError.{RunError}, declared.status.Status.{Status}}
use Rattle.dimacs_jobs.specs.Jobs.{Asks, names_read, names_written}
use Rattle.dimacs_runs.specs.declared.failure.FileCall.TheVariants as calls
use Rattle.dimacs_jobs.specs.declared.jobs.JudgeKind.TheVariants as judges
use Rattle.dimacs_jobs.specs.declared.jobs.SolveJob.TheVariants as solves

-- the bytes that the file with a name holds, if they are known
abbrev pub Contents : Type 0
Contents = List ℕ → Option (List ℕ)

-- what was done with the files and the output
pub record Seen : Type 0 where
  pub files : FilesSeen
  pub output : Written

abbrev pub seen_by : FilesSeen → Written → Seen
seen_by files output = record { files = files; output = output }

-- the files that a run opens and creates, in the order of its arguments
pub record Plan : Type 0 where
  pub opened : List (List ℕ)
  pub created : List (List ℕ)

abbrev pub plan_of : Job → Plan
plan_of job = record { opened = names_read job; created = names_written job }

-- the texts that were read, the result, and what files and output had accepted before the run and after it
abbrev pub Reporting : Type 1
Reporting = List (List ℕ) → Result Status CommandError → List (Option (List ℕ)) → List (Option (List ℕ)) → Type 0

abbrev pub ReportsOne : (List ℕ → Status → List ℕ → Type 0) → Reporting
ReportsOne writes (text ∷ []) result (old ∷ []) (new ∷ []) = Reports (writes text) result old new
ReportsOne writes other result old new = ⊥

-- `Infeasible` has no claim
abbrev pub ReportsJudged : JudgeKind → Reporting
ReportsJudged judges.Infeasible (instance ∷ set ∷ []) result (old ∷ []) (new ∷ []) = Reports (Judged judges.Infeasible instance [] set) result old new
ReportsJudged kind (instance ∷ claim ∷ certificate ∷ []) result (old ∷ []) (new ∷ []) = Reports (Judged kind instance claim certificate) result old new
ReportsJudged kind other result old new = ⊥

-- if no file is created for a text, the text is dropped
abbrev pub text_first : List (Option (List ℕ)) → List (Option (List ℕ))
text_first (output ∷ []) = None ∷ output ∷ []
text_first sinks = sinks

-- the files that are created: those of the plan, unless the text for them is empty
abbrev pub files_for : List (List ℕ) → List (List ℕ) → List (List ℕ)
files_for names ([] ∷ out) = []
files_for names out = names

-- distances come without a claim, whose text is dropped
abbrev pub WritesSolved : SolveJob → Reporting
WritesSolved (solves.Max limit) (instance ∷ []) result old new = ReportsAll (MayWrite (Solved (solves.Max limit) instance [])) result old new
WritesSolved (solves.Min limit) (instance ∷ []) result old new = ReportsAll (MayWrite (Solved (solves.Min limit) instance [])) result old new
WritesSolved solves.Paths (graph ∷ queries ∷ []) result old new = ReportsAll (MayWrite (Solved solves.Paths graph queries)) result (None ∷ old) (None ∷ new)
WritesSolved job other result old new = ⊥

-- from the texts that were read to a status and texts: one for a file, and a report
abbrev pub Making : Type 1
Making = List (List ℕ) → Status → List (List ℕ) → Type 0

-- a run that reads one file has no claim
abbrev pub MakesCertificate : JudgeKind → Making
MakesCertificate kind (instance ∷ []) = WritesAlike (Certified kind instance [])
MakesCertificate kind (instance ∷ claim ∷ []) = WritesAlike (Certified kind instance claim)
MakesCertificate kind other = λ status out. ⊥

abbrev pub MakesSpread : SpreadKind → Making
MakesSpread kind (instance ∷ claim ∷ []) = WritesAlike (Spreads kind instance claim)
MakesSpread kind other = λ status out. ⊥

-- a file could not be opened: those before it were, and nothing else was done
pub record StopsOpening (plan : Plan) (events : List FileEvent) : Type 0 where
  pub before : List (List ℕ)
  pub name : List ℕ
  pub after : List (List ℕ)
  pub error : RunError
  pub whole : plan.opened ≡ before ++ name ∷ after
  pub happened : events ≡ map Opened before ++ NotOpened name error ∷ []

abbrev pub closed_empty : Option (List ℕ) → List ℕ → FileEvent
closed_empty empty name = closed_written name (record { accepted = empty; faults = 0 })

-- a file could not be created: those before it were, and were closed without having accepted a byte
pub record StopsCreating (plan : Plan) (empty : Option (List ℕ)) (events : List FileEvent) : Type 0 where
  pub before : List (List ℕ)
  pub name : List ℕ
  pub after : List (List ℕ)
  pub error : RunError
  pub whole : plan.created ≡ before ++ name ∷ after
  pub happened : events ≡ map Opened plan.opened ++ map Created before ++ NotCreated name error ∷ map (closed_empty empty) before

-- memory ran out, or a file could not be opened, created or read
abbrev pub WritesNothing : Result Status CommandError → Type 0
WritesNothing (Err Memory) = Unit {0}
WritesNothing (Err (Device (File calls.Open name))) = Unit {0}
WritesNothing (Err (Device (File calls.Create name))) = Unit {0}
WritesNothing (Err (Device (File calls.Read name))) = Unit {0}
WritesNothing other = ⊥

-- what the created files and the output have accepted, before and after
abbrev pub accepted_before : List (List ℕ) → Option (List ℕ) → Option (List ℕ) → List (Option (List ℕ))
accepted_before created empty output = map (λ (name : List ℕ). empty) created ++ output ∷ []

abbrev pub accepted_after : List WrittenFile → Option (List ℕ) → List (Option (List ℕ))
accepted_after written output = map (λ (file : WrittenFile). file.seen.accepted) written ++ output ∷ []

-- all files were opened or created, used and closed; what follows from the texts was written, after an error a beginning or nothing
pub record UsesFiles (plan : Plan) (holds : Contents) (empty : Option (List ℕ)) (writes : Reporting) (events : List FileEvent) (result : Result Status CommandError) (old new : Option (List ℕ)) : Type 0 where
  pub read : List ReadFile
  pub written : List WrittenFile
  pub all_read : map (λ (file : ReadFile). file.name) read ≡ plan.opened
  pub all_written : map (λ (file : WrittenFile). file.name) written ≡ plan.created
  pub happened : events ≡ map Opened plan.opened ++ map Created plan.created ++ map Read read ++ map Wrote written
  pub reports : (texts : List (List ℕ)) → map holds plan.opened ≡ map Some texts
      → writes texts result (accepted_before plan.created empty old) (accepted_after written new)
  pub nothing_written : WritesNothing result → accepted_after written new ≡ accepted_before plan.created empty old

-- a file was created, written and closed
abbrev pub made_events : WrittenFile → List FileEvent
made_events file = Created file.name ∷ Wrote file ∷ []

-- all files to read were opened, read and closed, but the file for the text could not be created
pub record StopsMaking (plan : Plan) (holds : Contents) (makes : Making) (events : List FileEvent) : Type 0 where
  pub read : List ReadFile
  pub name : List ℕ
  pub error : RunError
  pub all_read : map (λ (file : ReadFile). file.name) read ≡ plan.opened
  pub whole : plan.created ≡ name ∷ []
  pub happened : events ≡ (map Opened plan.opened ++ map Read read) ++ NotCreated name error ∷ []
  pub possible : (texts : List (List ℕ)) → map holds plan.opened ≡ map Some texts
      → (status : Status) × (out : List (List ℕ)) × makes texts status out × (files_for plan.created out ≡ plan.created)

-- the files to read were opened, read and closed; then one was created if there is a text for it; all was written, after an error a beginning or nothing
pub record MakesFiles (plan : Plan) (holds : Contents) (empty : Option (List ℕ)) (makes : Making) (events : List FileEvent) (result : Result Status CommandError) (old new : Option (List ℕ)) : Type 0 where
  pub read : List ReadFile
  pub written : List WrittenFile
  pub all_read : map (λ (file : ReadFile). file.name) read ≡ plan.opened
  pub happened : events ≡ (map Opened plan.opened ++ map Read read) ++ flat_map made_events written
  pub reports : (texts : List (List ℕ)) → map holds plan.opened ≡ map Some texts
      → ReportsAll (λ status out. makes texts status out × (map (λ (file : WrittenFile). file.name) written ≡ files_for plan.created out)) result
      (text_first (accepted_before (map (λ (file : WrittenFile). file.name) written) empty old)) (text_first (accepted_after written new))
  pub nothing_written : WritesNothing result → (written ≡ []) × (new ≡ old)

-- the failed operations on files that an error names
abbrev pub file_failures : CommandError → List (FileCall × List ℕ)
file_failures (Device (File call name)) = (call, name.now) ∷ []
file_failures other = []

-- those that the end of a run names
abbrev pub failures_named : {X : Type 0} → Result X CommandError → List (FileCall × List ℕ)
failures_named (Ok x) = []
failures_named (Err error) = file_failures error

-- the faults of the output: one more if the error names it
abbrev pub faults_by_error : CommandError → ℕ → ℕ
faults_by_error (Device Output) faults = one_more faults
faults_by_error other faults = faults

abbrev pub output_faults : {X : Type 0} → Result X CommandError → ℕ → ℕ
output_faults (Ok x) faults = faults
output_faults (Err error) faults = faults_by_error error faults

-- a run used the files and ended; the operation that its end names is the only one that failed
pub record RunsOver (end : List FileEvent → Type 0) (result : Result Status CommandError) (old new : Seen) : Type 0 where
  pub events : List FileEvent
  pub seen : Sees events old.files new.files
  pub failure : flat_map failures events ≡ failures_named result
  pub faults : new.output.faults ≡ output_faults result old.output.faults
  pub ends : end events

-- a file could not be opened or created, and nothing was written
abbrev pub StopsEarly : Type 0 → Result Status CommandError → Seen → Seen → Type 0
StopsEarly stops result old new = stops × IsErr result × (new.output.accepted ≡ old.output.accepted)

-- the files of the plan were used, or one of them could not be opened or created
abbrev pub RunsFiles : Plan → Contents → Option (List ℕ) → Reporting → Result Status CommandError → Seen → Seen → Type 0
RunsFiles plan holds empty writes result old new =
    RunsOver (λ events. StopsEarly (StopsOpening plan events ⊎ StopsCreating plan empty events) result old new
    ⊎ UsesFiles plan holds empty writes events result old.output.accepted new.output.accepted) result old new

-- the files of the plan were read and one was created for a text, or one of them could not be opened or created
abbrev pub MakesOfFiles : Plan → Contents → Option (List ℕ) → Making → Result Status CommandError → Seen → Seen → Type 0
MakesOfFiles plan holds empty makes result old new =
    RunsOver (λ events. StopsEarly (StopsOpening plan events ⊎ StopsMaking plan holds makes events) result old new
    ⊎ MakesFiles plan holds empty makes events result old.output.accepted new.output.accepted) result old new

-- certifying and spreading create their file once they have a text for it, the others before they run
abbrev pub RunsVerb : Verb → Plan → Contents → Option (List ℕ) → Result Status CommandError → Seen → Seen → Type 0
RunsVerb (Convert kind) plan holds empty = RunsFiles plan holds empty (ReportsOne (Prints Canonical kind))
RunsVerb (Show kind) plan holds empty = RunsFiles plan holds empty (ReportsOne (Prints Summary kind))
RunsVerb (Judge kind) plan holds empty = RunsFiles plan holds empty (ReportsJudged kind)
RunsVerb (Certify kind) plan holds empty = MakesOfFiles plan holds empty (MakesCertificate kind)
RunsVerb (Spread kind) plan holds empty = MakesOfFiles plan holds empty (MakesSpread kind)
RunsVerb (Solve job) plan holds empty = RunsFiles plan holds empty (WritesSolved job)

abbrev pub RunsJob : Job → Contents → Option (List ℕ) → Result Status CommandError → Seen → Seen → Type 0
RunsJob job = RunsVerb job.verb (plan_of job)

-- the arguments ask for no run, and nothing is done; or the run that they ask for ends like this
abbrev pub Commands : List (List ℕ) → Contents → Option (List ℕ) → Option (Result Status CommandError) → Seen → Seen → Type 0
Commands arguments holds empty None old new = ((wanted : Job) → ¬ Asks arguments wanted) × (new ≡ old)
Commands arguments holds empty (Some ended) old new = (wanted : Job) × Asks arguments wanted × RunsJob wanted holds empty ended old new
