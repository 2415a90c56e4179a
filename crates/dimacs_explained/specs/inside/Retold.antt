-- Inside: what an explanation reads again is of the run that it explains.
use Rattle.std.specs.Prelude.{ℕ, ◌≡◌, ◌≢◌, ◌<◌, ◌⊎◌, List, [], ◌∷◌, Option, Some, IfSome, Result, Ok, Err, zero, suc, map, slice_get}
use Rattle.std.specs.String.{string_bytes}
use Rattle.dimacs_jobs.specs.{declared.jobs.Job.{Job}, declared.status.Status.{Status}, Jobs.{texts_of}}
use Rattle.dimacs_runs.specs.{declared.outcome.Outcome.{Outcome}, InMemory.{Makes}, Reports.{report_lines}}

-- from the name of a file to what may come from it
abbrev pub Reopens : Type 1
Reopens = List ℕ → Option (List ℕ) → Type 0

-- the texts of a run in the order of its files: those that it read, as many as this, then those that it made
abbrev pub run_texts : ℕ → List ℕ → List ℕ → List ℕ → List ℕ → List ℕ → List (List ℕ)
run_texts (suc zero) first second third made more = first ∷ made ∷ more ∷ []
run_texts (suc (suc zero)) first second third made more = first ∷ second ∷ made ∷ []
run_texts read first second third made more = first ∷ second ∷ third ∷ []

-- the file at this place was read, or no earlier one has its name
abbrev pub Counts : List (List ℕ) → ℕ → List ℕ → ℕ → Type 0
Counts names read name place = (place < read) ⊎ ((earlier : ℕ) → earlier < place → slice_get names earlier ≢ Some name)

-- what may come from a file of the job is its text of a run that reported this
abbrev pub IsOfRun : Job → Reopens → Status → List ℕ → Type 0
IsOfRun job reopens status report =
    let names = map string_bytes job.files.now in
    let read = (texts_of job.verb).read in
    (first : List ℕ) × (second : List ℕ) × (third : List ℕ) × (made : List ℕ) × (more : List ℕ) × Makes job.verb first second third status made more report
    × ((place : ℕ) (name bytes : List ℕ) → slice_get names place ≡ Some name → Counts names read name place
    → reopens name (Some bytes) → slice_get (run_texts read first second third made more) place ≡ Some bytes)

-- the same, unless no bytes are known
abbrev pub Retells : Job → Reopens → Status → List ℕ → Type 0
Retells job reopens status report = ((name bytes : List ℕ) → ¬ reopens name (Some bytes)) ⊎ IsOfRun job reopens status report

-- the same of the outcome of a run that ended so, if there is one
abbrev pub RetellsKept : {E : Type 0} → Job → Reopens → Result Status E → Option Outcome → Type 0
RetellsKept job reopens (Ok status) kept = IfSome kept (λ (o : Outcome). Retells job reopens status (report_lines o.report))
RetellsKept job reopens (Err error) kept = Unit {0}
