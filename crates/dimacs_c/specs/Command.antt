-- How a command over texts in memory ends, and what it hands out.
use Rattle.std.specs.{Prelude.{ℕ, ◌≡◌, ◌+◌, ◌==◌, ◌⊎◌, if◌then◌else◌, List, [], ◌∷◌, Ok}, Str.{IsUtf8}}
use Rattle.dimacs_jobs.specs.{declared.jobs.Job.{Job}, declared.status.Status.{Status}, Outcomes.{status_number}}
use Rattle.dimacs_jobs.specs.{Jobs.{Requests}, OneRequest.{AskForNoRun}}
use Rattle.dimacs_jobs.specs.declared.jobs.Request.TheVariants.{Run, Explain}
use Rattle.dimacs_runs.specs.InMemory.{Makes, Refuses}
use Rattle.dimacs_explained.specs.Explained.{IsExplained}
use Rattle.dimacs_c.specs.{Calls.{Handed, HandsEach}, Requests.{AreWords}}

-- the text at a place, from 1; a line end, which no kind of text is, in place of the one that can't be read
abbrev pub readable : ℕ → ℕ → List ℕ → List ℕ
readable unread place text = if unread == place then 10 ∷ [] else text

-- the report refuses the text that can't be read
abbrev pub IsUnread : Job → ℕ → List ℕ → Type 0
IsUnread job unread report = (place : ℕ) × (unread ≡ place + 1) × Refuses job.verb place report

-- the job is run; if it comes to the text that can't be read, the exit status is 3 and no text is handed out; otherwise it
-- is the job's, and its texts for files are handed out, and what is printed
abbrev pub EndsJob : Job → (Status → List ℕ → List ℕ → Type 0) → ℕ → List ℕ → List ℕ → List ℕ → ℕ → List (List ℕ) → Type 0
EndsJob job prints unread first second third exit_status out =
    (s : Status) × (made : List ℕ) × (more : List ℕ) × (report : List ℕ) × Makes job.verb first second third s made more report
    × ((IsUnread job unread report × (exit_status ≡ 3) × (out ≡ []))
    ⊎ ((¬ IsUnread job unread report) × ((printed : List ℕ) × prints s report printed × (exit_status ≡ status_number (Ok s)) × (out ≡ made ∷ more ∷ printed ∷ []))))

-- the words ask for no run, and the exit status is 2; or for a run, whose report is printed; or for one whose report is
-- explained
abbrev pub EndsCommand : List (List ℕ) → ℕ → List ℕ → List ℕ → List ℕ → ℕ → List (List ℕ) → Type 0
EndsCommand words unread first second third exit_status out =
    (AskForNoRun words × (exit_status ≡ 2) × (out ≡ []))
    ⊎ (((job : Job) × Requests words (Run job) × EndsJob job (λ status report printed. printed ≡ report) unread first second third exit_status out)
    ⊎ ((job : Job) × Requests words (Explain job) × EndsJob job (IsExplained job) unread first second third exit_status out))

-- the same for the bytes of words; the exit status is 2 if they aren't UTF-8
abbrev pub EndsBytes : List ℕ → ℕ → List ℕ → List ℕ → List ℕ → ℕ → List (List ℕ) → Type 0
EndsBytes bytes unread first second third exit_status out =
    ((¬ IsUtf8 bytes) × (exit_status ≡ 2) × (out ≡ []))
    ⊎ (IsUtf8 bytes × ((words : List (List ℕ)) × AreWords bytes words × EndsCommand words unread first second third exit_status out))

-- its texts are handed out; or memory ran out, and none is
abbrev pub AnswersCommand : List ℕ → ℕ → List ℕ → List ℕ → List ℕ → ℕ → List (Handed ℕ) → Type 0
AnswersCommand bytes unread first second third exit_status buffers =
    (out : List (List ℕ)) × HandsEach out buffers × (((exit_status ≡ 4) × (out ≡ []))
    ⊎ EndsBytes bytes unread (readable unread 1 first) (readable unread 2 second) (readable unread 3 third) exit_status out)
