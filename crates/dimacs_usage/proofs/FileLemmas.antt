-- The words of a run that name its files.
use Rattle.std.proofs.Common.{◌≡◌, ◌+◌, ◌++◌, ◌∷◌, Bool, List, true, false, append_assoc, arith, drop, length, map, refl, suc, ℕ}
use Rattle.std.proofs.Math.Seq.{drop-append_seam}
use Rattle.std.specs.{Prelude.{codes}, String.{string_bytes}}
use Rattle.dimacs_jobs.specs.{declared.jobs.Job.{Job}, Jobs.{Asks, verb_words}}
use Rattle.dimacs_usage.specs.{Answers.{RequestsRun}, Plans.{NamesFiles}}

-- the files follow the words of the verb
asked_files : (words : List (List ℕ)) (job : Job) → Asks words job → (rest : List (List ℕ)) × (drop (length (verb_words job.verb)) words ≡ map string_bytes job.files.now ++ rest)
asked_files words job (options, same, takes, are) = (options, rw (same, append_assoc (verb_words job.verb) (map string_bytes job.files.now) options) (drop-append_seam (verb_words job.verb) _))

none_before : (n : ℕ) → 0 + n ≡ n
none_before n = omega arith

one_before : (n : ℕ) (word : List ℕ) (words : List (List ℕ)) → drop (1 + n) (word ∷ words) ≡ drop n words
one_before n word words = let next : 1 + n ≡ suc n = omega arith in rw next refl

pub names_files : (words : List (List ℕ)) (job : Job) (explains : Bool) → RequestsRun words job explains → NamesFiles job explains words
names_files words job false asks = let files = asked_files words job asks.0 in (files.0, rw (none_before (length (verb_words job.verb))) files.1)
names_files words job true (command, same, asks) =
    let files = asked_files command job asks in
    (files.0, rw (same, one_before (length (verb_words job.verb)) (codes "explain") command) files.1)
