-- The plan of a run: what it does with the files that its words name.
use Rattle.std.specs.Prelude.{ℕ, ◌≡◌, ◌+◌, ◌-◌, ◌++◌, Bool, if◌then◌else◌, List, codes, drop, length, map}
use Rattle.std.specs.{List.{repeat}, String.{string_bytes}}
use Rattle.dimacs_jobs.specs.{declared.jobs.Job.{Job}, declared.texts.Writes.{Writes}}
use Rattle.dimacs_jobs.specs.declared.texts.Writes.TheVariants.{Creates}
use Rattle.dimacs_jobs.specs.Jobs.{names_read, names_written, texts_of, verb_words}
use Rattle.dimacs_usage.specs.declared.asked.Run.{Run}

-- how many words come before those that name files, with `explain` if the run is explained
abbrev pub first_file : Job → Bool → ℕ
first_file job explains = (if explains then 1 else 0) + length (verb_words job.verb)

-- after those come the files of the job: those that the run reads, then those that it writes
abbrev pub NamesFiles : Job → Bool → List (List ℕ) → Type 0
NamesFiles job explains words = (rest : List (List ℕ)) × (drop (first_file job explains) words ≡ map string_bytes job.files.now ++ rest)

-- a solver creates its files before it reads; other runs create a file once they have a text for it
abbrev pub written_mark : Writes → List ℕ
written_mark Creates = codes "c"
written_mark writes = codes "w"

-- a mark for each of so many words
abbrev pub marks : Job → Bool → ℕ → List ℕ
marks job explains count =
    repeat (first_file job explains) (codes "-")
    ++ repeat (length (names_read job)) (codes "r")
    ++ repeat (length (names_written job)) (written_mark (texts_of job.verb).writes)
    ++ repeat (count - first_file job explains - length (names_read job) - length (names_written job)) (codes "-")

-- the first line of a text has the marks of a run's words
abbrev pub BeginsWithMarks : Run → List ℕ → Type 0
BeginsWithMarks run text = (rest : List ℕ) × (text ≡ marks run.job run.explains (length run.words.now) ++ codes "\n" ++ rest)
