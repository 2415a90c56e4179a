-- Inside: the first of several files, and what is wrong with it.
use Rattle.std.specs.Prelude.{ℕ, ◌≡◌, ◌++◌, ◌<◌, Bool, List, Option, Some, codes, drop, length, slice_get, take}
use Rattle.std.specs.Option.{IsSomeAnd}
use Rattle.dimacs_jobs.specs.{declared.jobs.Job.{Job}, Jobs.{names_read, names_written}}
use Rattle.dimacs_usage.specs.{declared.slips.Slip.{Slip}, declared.slips.SlipKind.{SlipKind}, Plans.{first_file}}
use Rattle.dimacs_usage.specs.{Slips.{kept_count}, declared.slips.SlipKind.TheVariants.{Read, Written, LikeOption}}

-- of files with these names, the first of which something holds has this one
abbrev pub IsFirst : (ℕ → Type 0) → List (List ℕ) → List ℕ → Type 0
IsFirst holds names name = (place : ℕ) × (slice_get names place ≡ Some name) × holds place × ((earlier : ℕ) → earlier < place → ¬ holds earlier)

-- a file has the number at this place
abbrev pub IsAt : List ℕ → Option ℕ → ℕ → Type 0
IsAt numbers number place = IsSomeAnd number (λ n. slice_get numbers place ≡ Some n)

-- why a file with this name and number is wrong: by its number among those that are kept, or those that are written
-- before it; or by its name
abbrev pub IsWrongBy : List ℕ → List ℕ → List ℕ → Option ℕ → SlipKind → Type 0
IsWrongBy kept written name number (Read place) = IsAt kept number place
IsWrongBy kept written name number (Written place) = IsAt written number place
IsWrongBy kept written name number LikeOption = (rest : List ℕ) × (name ≡ codes "--" ++ rest)

-- the same of the file at the slip's place
abbrev pub IsWrongAs : List ℕ → List (List ℕ) → List ℕ → Slip → Type 0
IsWrongAs kept names numbers slip =
    (slice_get names slip.place ≡ Some slip.name.now)
    × IsWrongBy kept (take slip.place numbers) slip.name.now (slice_get numbers slip.place) slip.kind

abbrev pub IsSlipAs : Job → Bool → List ℕ → Slip → Type 0
IsSlipAs job explains same =
    let numbers = drop (first_file job explains) same in
    IsWrongAs (take (kept_count job.verb (length (names_read job))) numbers) (names_written job) (drop (length (names_read job)) numbers)
