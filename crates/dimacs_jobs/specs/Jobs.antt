-- What the arguments ask for, and the texts that this reads and writes.
use Rattle.std.specs.Prelude.{ℕ, ◌≡◌, ◌≤◌, ◌++◌, ◌⊎◌, List, [], ◌∷◌, Some, Contains, codes, drop, map, length, pos, slice_get, take}
use Rattle.std.specs.String.{string_bytes}
use Rattle.dimacs_lines.specs.Number.{Spells}
use Rattle.dimacs_records.specs.declared.kinds.TextKind.{TextKind}
use Rattle.dimacs_records.specs.declared.kinds.TextKind.TheVariants.{Max, Min, Graph, Queries, Solution, Cut, Potentials, Labels, Distances}
use Rattle.dimacs_jobs.specs.{declared.jobs.Job.{Job}, declared.jobs.Request.{Request}, declared.jobs.Verb.{Verb}}
use Rattle.dimacs_jobs.specs.declared.jobs.Request.TheVariants.{Help, HelpOn, Version, Run, Explain}
use Rattle.dimacs_jobs.specs.declared.jobs.Verb.TheVariants.{Convert, Show, Judge, Certify, Spread, Solve}
use Rattle.dimacs_jobs.specs.declared.texts.Writes.{Writes}
use Rattle.dimacs_jobs.specs.declared.texts.Writes.TheVariants.{Nothing, MayMake, Makes, Creates}
use Rattle.dimacs_jobs.specs.declared.jobs.JudgeKind.TheVariants as judges
use Rattle.dimacs_jobs.specs.declared.jobs.SolveJob.TheVariants as solves
use Rattle.dimacs_jobs.specs.declared.jobs.SpreadKind.TheVariants as spreads

abbrev pub kind_argument : TextKind → List ℕ
kind_argument Max = codes "max"
kind_argument Min = codes "min"
kind_argument Graph = codes "gr"
kind_argument Queries = codes "query"
kind_argument Solution = codes "solution"
kind_argument Cut = codes "cut"
kind_argument Potentials = codes "pot"
kind_argument Labels = codes "dist"
kind_argument Distances = codes "distances"

-- the words before the files
abbrev pub verb_words : Verb → List (List ℕ)
verb_words (Convert kind) = codes "convert" ∷ kind_argument kind ∷ []
verb_words (Show kind) = codes "show" ∷ kind_argument kind ∷ []
verb_words (Judge judges.Max) = codes "judge-max" ∷ []
verb_words (Judge judges.Min) = codes "judge-min" ∷ []
verb_words (Judge judges.Infeasible) = codes "judge-infeasible" ∷ []
verb_words (Judge judges.Paths) = codes "judge-paths" ∷ []
verb_words (Certify judges.Max) = codes "certify-max" ∷ []
verb_words (Certify judges.Min) = codes "certify-min" ∷ []
verb_words (Certify judges.Infeasible) = codes "certify-infeasible" ∷ []
verb_words (Certify judges.Paths) = codes "certify-paths" ∷ []
verb_words (Spread spreads.Max) = codes "spread-max" ∷ []
verb_words (Spread spreads.Min) = codes "spread-min" ∷ []
verb_words (Solve (solves.Max limit)) = codes "solve-max" ∷ []
verb_words (Solve (solves.Min limit)) = codes "solve-min" ∷ []
verb_words (Solve solves.Paths) = codes "solve-paths" ∷ []

-- the texts of a run, in the order of its files: their kinds, how many of them it reads, and what it does with the others
pub record Texts : Type 0 where
  pub kinds : List TextKind
  pub read : ℕ
  pub writes : Writes

abbrev pub texts : List TextKind → ℕ → Writes → Texts
texts kinds read writes = record { kinds = kinds; read = read; writes = writes }

abbrev pub texts_of : Verb → Texts
texts_of (Convert kind) = texts (kind ∷ []) 1 Nothing
texts_of (Show kind) = texts (kind ∷ []) 1 Nothing
texts_of (Judge judges.Max) = texts (Max ∷ Solution ∷ Cut ∷ []) 3 Nothing
texts_of (Judge judges.Min) = texts (Min ∷ Solution ∷ Potentials ∷ []) 3 Nothing
texts_of (Judge judges.Infeasible) = texts (Min ∷ Cut ∷ []) 2 Nothing
texts_of (Judge judges.Paths) = texts (Graph ∷ Queries ∷ Labels ∷ []) 3 Nothing
texts_of (Certify judges.Max) = texts (Max ∷ Solution ∷ Cut ∷ []) 2 MayMake
texts_of (Certify judges.Min) = texts (Min ∷ Solution ∷ Potentials ∷ []) 2 MayMake
texts_of (Certify judges.Infeasible) = texts (Min ∷ Cut ∷ []) 1 MayMake
texts_of (Certify judges.Paths) = texts (Graph ∷ Distances ∷ Labels ∷ []) 2 MayMake
texts_of (Spread spreads.Max) = texts (Max ∷ Solution ∷ Solution ∷ []) 2 Makes
texts_of (Spread spreads.Min) = texts (Min ∷ Solution ∷ Solution ∷ []) 2 Makes
texts_of (Solve (solves.Max limit)) = texts (Max ∷ Solution ∷ Cut ∷ []) 1 Creates
texts_of (Solve (solves.Min limit)) = texts (Min ∷ Solution ∷ Potentials ∷ []) 1 Creates
texts_of (Solve solves.Paths) = texts (Graph ∷ Queries ∷ Labels ∷ []) 2 Creates

-- only a file that a run may make can be left out
abbrev pub least_count : Writes → ℕ → ℕ → ℕ
least_count MayMake read all = read
least_count writes read all = all

-- so many files suit a verb
abbrev pub TakesFiles : Verb → ℕ → Type 0
TakesFiles verb count =
    let all = length (texts_of verb).kinds in
    (least_count (texts_of verb).writes (texts_of verb).read all ≤ count) × (count ≤ all)

-- a job has as many files as its verb takes
abbrev pub HasFiles : Job → Type 0
HasFiles job = TakesFiles job.verb (length job.files.now)

-- the names of the files that a run reads, which come first, and of those that it writes
abbrev pub names_read : Job → List (List ℕ)
names_read job = take (texts_of job.verb).read (map string_bytes job.files.now)

abbrev pub names_written : Job → List (List ℕ)
names_written job = drop (texts_of job.verb).read (map string_bytes job.files.now)

-- the same verb with the limit 0, if it has one
abbrev pub without_limit : Verb → Verb
without_limit (Solve (solves.Max limit)) = Solve (solves.Max 0)
without_limit (Solve (solves.Min limit)) = Solve (solves.Min 0)
without_limit verb = verb

-- two jobs have the same files, and differ at most in their limits
abbrev pub HaveOnePlan : Job → Job → Type 0
HaveOnePlan job other = (without_limit other.verb ≡ without_limit job.verb) × (map string_bytes other.files.now ≡ map string_bytes job.files.now)

-- a run writes both claim and certificate to the file with this name
abbrev pub WritesTwice : Job → List ℕ → Type 0
WritesTwice job name = (slice_get (names_written job) 0 ≡ Some name) × (slice_get (names_written job) 1 ≡ Some name)

-- a number from 0 to 10^9
abbrev pub IsLimit : List ℕ → ℕ → Type 0
IsLimit argument limit = Spells argument (pos limit) × (limit ≤ 1000000000)

-- the limit that these arguments give: 10^6 if there are none, otherwise a number after `--limit`
abbrev pub GiveLimit : List (List ℕ) → ℕ → Type 0
GiveLimit [] limit = limit ≡ 1000000
GiveLimit (option ∷ number ∷ []) limit = (option ≡ codes "--limit") × IsLimit number limit
GiveLimit other limit = ⊥

-- the arguments after the files: perhaps a limit if a flow is solved, otherwise none
abbrev pub AreOptions : Verb → List (List ℕ) → Type 0
AreOptions (Solve (solves.Max limit)) options = GiveLimit options limit
AreOptions (Solve (solves.Min limit)) options = GiveLimit options limit
AreOptions verb options = options ≡ []

-- the words of a verb, its files, then options
abbrev pub Asks : List (List ℕ) → Job → Type 0
Asks arguments job =
    (options : List (List ℕ)) × (arguments ≡ verb_words job.verb ++ map string_bytes job.files.now ++ options) × HasFiles job × AreOptions job.verb options

-- the words that name a command, in the order of the usage text
abbrev pub command_words : List (List ℕ)
command_words = codes "convert" ∷ codes "show" ∷ codes "judge-max" ∷ codes "judge-min" ∷ codes "judge-infeasible" ∷ codes "judge-paths"
    ∷ codes "certify-max" ∷ codes "certify-min" ∷ codes "certify-infeasible" ∷ codes "certify-paths" ∷ codes "solve-max" ∷ codes "solve-min"
    ∷ codes "solve-paths" ∷ codes "spread-max" ∷ codes "spread-min" ∷ codes "explain" ∷ codes "help" ∷ []

-- help on a command is asked for by `help` before it, or by an option after it
abbrev pub AsksForHelp : List (List ℕ) → List ℕ → Type 0
AsksForHelp arguments command =
    Contains command_words command
    × ((arguments ≡ codes "help" ∷ command ∷ []) ⊎ ((arguments ≡ command ∷ codes "--help" ∷ []) ⊎ (arguments ≡ command ∷ codes "-h" ∷ [])))

-- help and the version are asked for by one word alone; words that ask for help on a command ask for no run
abbrev pub Requests : List (List ℕ) → Request → Type 0
Requests arguments Help = (arguments ≡ codes "--help" ∷ []) ⊎ ((arguments ≡ codes "-h" ∷ []) ⊎ (arguments ≡ codes "help" ∷ []))
Requests arguments (HelpOn command) = AsksForHelp arguments command.now
Requests arguments Version = (arguments ≡ codes "--version" ∷ []) ⊎ (arguments ≡ codes "-V" ∷ [])
Requests arguments (Run job) = Asks arguments job × ((command : List ℕ) → ¬ AsksForHelp arguments command)
Requests arguments (Explain job) = (command : List (List ℕ)) × (arguments ≡ codes "explain" ∷ command) × Asks command job
