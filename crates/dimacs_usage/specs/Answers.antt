-- What is answered to the words of a command.
use Rattle.std.specs.{Prelude.{ℕ, ◌≡◌, ◌≢◌, ◌++◌, Bool, true, false, List, [], codes, map}, String.{string_bytes}}
use Rattle.dimacs_jobs.specs.{declared.jobs.Job.{Job}, declared.jobs.Request.{Request}, Jobs.{WritesTwice, Requests}}
use Rattle.dimacs_jobs.specs.Version.{proved_version}
use Rattle.dimacs_usage.specs.{declared.asked.Asked.{Asked}, declared.asked.Asked.TheVariants.{Nothing, Text, Run}}
use Rattle.dimacs_usage.specs.{Plans.{NamesFiles}, Slips.{HasSlip, IsStopped}}
use Rattle.dimacs_jobs.specs.declared.jobs.Request.TheVariants as requests
use Rattle.dimacs_usage.specs.declared.asked.Run as runs

-- the words ask for this run, explained or not
abbrev pub RequestsRun : List (List ℕ) → Job → Bool → Type 0
RequestsRun words job false = Requests words (requests.Run job)
RequestsRun words job true = Requests words (requests.Explain job)

-- the words ask for a run that no slip stops; something is told of its files exactly if it writes one twice, or by a slip
pub record AnswersRun (words : List (List ℕ)) (same : List ℕ) (run : runs.Run) : Type 0 where
  pub requested : RequestsRun words run.job run.explains
  pub not_stopped : ¬ IsStopped run.job run.explains same
  pub worded : map string_bytes run.words.now ≡ words
  pub named : NamesFiles run.job run.explains words
  pub nothing_told : ((name : List ℕ) → ¬ WritesTwice run.job name) → ¬ HasSlip run.job run.explains same → string_bytes run.told ≡ []
  pub slip_told : HasSlip run.job run.explains same → string_bytes run.told ≢ []
  pub twice_told : (name : List ℕ) → WritesTwice run.job name → string_bytes run.told ≢ []

-- the text that a request without a run asks for; that of help is free
abbrev pub IsTextFor : Request → List ℕ → Type 0
IsTextFor requests.Help text = Unit {0}
IsTextFor (requests.HelpOn command) text = Unit {0}
IsTextFor requests.Version text = text ≡ codes "dimacs " ++ proved_version ++ codes "\n"
IsTextFor other text = ⊥

-- a request for a run that a slip stops
abbrev pub IsForStopped : List ℕ → Request → Type 0
IsForStopped same (requests.Run job) = IsStopped job false same
IsForStopped same (requests.Explain job) = IsStopped job true same
IsForStopped same other = ⊥

-- a run, or a text; or the words ask for nothing but runs that a slip stops
abbrev pub Answers : List (List ℕ) → List ℕ → Asked → Type 0
Answers words same (Run run) = AnswersRun words same run
Answers words same (Text text) = (wanted : Request) × Requests words wanted × IsTextFor wanted (string_bytes text)
Answers words same (Nothing text) = (wanted : Request) → Requests words wanted → IsForStopped same wanted
