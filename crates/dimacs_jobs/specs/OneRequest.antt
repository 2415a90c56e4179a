-- That words ask for one run, for one that is explained, or for none.
use Rattle.std.specs.Prelude.{ℕ, List}
use Rattle.dimacs_jobs.specs.{declared.jobs.Job.{Job}, declared.jobs.Request.{Request}, Jobs.{HaveOnePlan, Requests}}
use Rattle.dimacs_jobs.specs.declared.jobs.Request.TheVariants.{Run, Explain}

-- the words ask for no run, explained or not
abbrev pub AskForNoRun : List (List ℕ) → Type 0
AskForNoRun words = (job : Job) → (¬ Requests words (Run job)) × (¬ Requests words (Explain job))

-- a request without a run
abbrev pub HasNoRun : Request → Type 0
HasNoRun (Run job) = ⊥
HasNoRun (Explain job) = ⊥
HasNoRun wanted = Unit {0}

-- words that ask for something without a run ask for no run; those that ask for a run ask for none that is explained; and
-- two runs that they ask for, or two that are explained, have one plan
abbrev pub OneRequestLaw : Type 0
OneRequestLaw =
    (words : List (List ℕ)) → ((wanted : Request) → HasNoRun wanted → Requests words wanted → AskForNoRun words)
    × ((job other : Job) → Requests words (Run job) → ¬ Requests words (Explain other))
    × ((job other : Job) → Requests words (Run job) → Requests words (Run other) → HaveOnePlan job other)
    × ((job other : Job) → Requests words (Explain job) → Requests words (Explain other) → HaveOnePlan job other)
