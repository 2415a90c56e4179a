-- What is read again of a run's texts.
use Rattle.std.proofs.Common.{◌≡◌, ◌⊎◌, ◌<◌, ℕ, List, Option, None, Some, Result, Ok, Err, slice_get, map, arith, inl, inr, subst}
use Rattle.std.proofs.lemmas.Bool.{cases_lt}
use Rattle.std.specs.{Prelude.{IfSome}, String.{string_bytes}}
use Rattle.dimacs_jobs.specs.{declared.jobs.Job.{Job}, declared.status.Status.{Status}, Jobs.{texts_of}}
use Rattle.dimacs_runs.specs.{declared.outcome.Outcome.{Outcome}, InMemory.{Makes}, Reports.{report_lines}}
use Rattle.dimacs_explained.specs.inside.Retold.{Reopens, RetellsKept, run_texts}
use Rattle.dimacs_explained.specs.inside.Texts.{Agree, IsFirst, Stands}

-- no bytes are known
pub retells_unknown : {E : Type 0} (job : Job) (reopens : Reopens) (ended : Result Status E) (kept : Option Outcome) → ((name bytes : List ℕ) → ¬ reopens name (Some bytes)) → RetellsKept job reopens ended kept
retells_unknown job reopens (Ok status) (Some o) unknown = inl unknown
retells_unknown job reopens (Ok status) None unknown = tt
retells_unknown job reopens (Err error) kept unknown = tt

-- the texts are those of the run
pub retells_run : (E : Type 0) (job : Job) (reopens : Reopens) (status : Status) (kept : Option Outcome) (first second third made more : List ℕ)
    → IfSome kept (λ (o : Outcome). Makes job.verb first second third status made more (report_lines o.report))
    → ((name bytes : List ℕ) → reopens name (Some bytes) → Stands (map string_bytes job.files.now) (texts_of job.verb).read (run_texts (texts_of job.verb).read first second third made more) name bytes)
    → RetellsKept {E = E} job reopens (Ok status) kept
retells_run E job reopens status (Some o) first second third made more makes stands = inr (first, second, third, made, more, makes, λ place name bytes at counts reopened. stands name bytes reopened place at counts)
retells_run E job reopens status None first second third made more makes stands = tt

-- a name has one first place
first_once : (names : List (List ℕ)) (name : List ℕ) (p q : ℕ) → IsFirst names name p → IsFirst names name q → p ≡ q
first_once names name p q first other = elim (cases_lt p q) [
  | inl less ↦ absurd (other.1 p less first.0)
  | inr most ↦ elim (cases_lt q p) [
    | inl more ↦ absurd (first.1 q more other.0)
    | inr least ↦ omega (arith, most, least)
  ]
]

-- the text at the first place of a name stands for it, if those that were read agree
pub stands_by : (names texts : List (List ℕ)) (name bytes : List ℕ) (read place : ℕ) → IsFirst names name place → slice_get texts place ≡ Some bytes → Agree read names texts name bytes → Stands names read texts name bytes
stands_by names texts name bytes read place first here agree = λ k at counts. elim counts [
  | inl was_read ↦ agree k was_read at
  | inr earliest ↦ subst (λ (it : ℕ). slice_get texts it ≡ Some bytes) (first_once names name place k first (at, earliest)) here
]
