-- Files that a run writes where this is likely a slip.
use Rattle.std.specs.Prelude.{ℕ, ◌≡◌, ◌++◌, ◌⊎◌, Bool, true, List, Option, Contains, codes, drop, length, slice_get, take}
use Rattle.std.specs.Option.{IsSomeAnd}
use Rattle.dimacs_jobs.specs.{declared.jobs.Job.{Job}, declared.jobs.Verb.{Verb}, Jobs.{names_read, names_written}}
use Rattle.dimacs_jobs.specs.declared.jobs.Verb.TheVariants.{Spread, Solve}
use Rattle.dimacs_usage.specs.Plans.{first_file}

-- how many of so many files that it reads a run must not replace: to spread deals a solution out, in place too
abbrev pub kept_count : Verb → ℕ → ℕ
kept_count (Spread kind) read = 1
kept_count verb read = read

-- a file isn't to be written: its name looks like an option, or its number is that of another, which is kept or written
abbrev pub IsWrong : List ℕ → List ℕ → Option ℕ → Type 0
IsWrong others name number = ((rest : List ℕ) × (name ≡ codes "--" ++ rest)) ⊎ IsSomeAnd number (Contains others)

-- the same of the file at this place among files with these names and numbers
abbrev pub IsWrongAt : List ℕ → List (List ℕ) → List ℕ → ℕ → Type 0
IsWrongAt kept names numbers place = IsSomeAnd (slice_get names place) (λ name. IsWrong (kept ++ take place numbers) name (slice_get numbers place))

-- of the files that a run writes, the one at this place is a slip; `same` has a number for each word of the command, and
-- equal ones for names of the same file, as far as it is there
abbrev pub IsSlip : Job → Bool → List ℕ → ℕ → Type 0
IsSlip job explains same =
    let numbers = drop (first_file job explains) same in
    IsWrongAt (take (kept_count job.verb (length (names_read job))) numbers) (names_written job) (drop (length (names_read job)) numbers)

abbrev pub HasSlip : Job → Bool → List ℕ → Type 0
HasSlip job explains same = (place : ℕ) × IsSlip job explains same place

abbrev pub IsSolver : Verb → Type 0
IsSolver (Solve job) = Unit {0}
IsSolver verb = ⊥

-- a slip stops a run before it begins, unless the run solves and isn't explained
abbrev pub IsStopped : Job → Bool → List ℕ → Type 0
IsStopped job explains same = HasSlip job explains same × (IsSolver job.verb → explains ≡ true)
