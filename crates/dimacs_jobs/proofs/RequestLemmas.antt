-- Which words ask for help, for the version, or for nothing.
use Rattle.std.proofs.Common.{◌≡◌, ◌≢◌, ◌∙◌, ◌+◌, ◌≤◌, ◌⊎◌, ℕ, ◌∷◌, ◌++◌, [], Contains, List, Option, Some, None, IfNone, append_assoc, arith, ap, get_or, inl, inr, length, map, refl, sym}
use Rattle.std.proofs.lemmas.List.{length-append, length-map}
use Rattle.std.specs.{Prelude.{codes}, String.{string_bytes}}
use Rattle.dimacs_jobs.specs.{declared.jobs.Job.{Job}, declared.jobs.Request.{Request}, declared.jobs.Verb.{Verb}}
use Rattle.dimacs_jobs.specs.declared.jobs.Request.TheVariants.{Help, HelpOn, Version, Run, Explain}
use Rattle.dimacs_jobs.specs.declared.jobs.Verb.TheVariants.{Convert, Show, Judge, Certify, Spread, Solve}
use Rattle.dimacs_jobs.specs.Jobs.{Asks, AsksForHelp, Requests, TakesFiles, command_words, verb_words}
use Rattle.dimacs_jobs.specs.declared.jobs.JudgeKind.TheVariants as judges
use Rattle.dimacs_jobs.specs.declared.jobs.SolveJob.TheVariants as solves
use Rattle.dimacs_jobs.specs.declared.jobs.SpreadKind.TheVariants as spreads

-- no help is asked for on a word that names no command
pub no_help_before : {A : Type 0} (answer : Option A) (arguments : List (List ℕ)) (word : List ℕ) → arguments ≡ codes "help" ∷ word ∷ [] → word ≢ codes "--help" → word ≢ codes "-h"
    → IfNone answer (¬ Contains command_words word) → IfNone answer ((command : List ℕ) → ¬ AsksForHelp arguments command)
no_help_before (Some a) arguments word is long short unknown = tt
no_help_before None arguments word is long short unknown = rw is none
  where
    none : (command : List ℕ) → ¬ AsksForHelp (codes "help" ∷ word ∷ []) command
    none command (known, inl same) = let it : word ≡ command = cc in unknown (rw it known)
    none command (known, inr (inl same)) = let it : word ≡ codes "--help" = cc in long it
    none command (known, inr (inr same)) = let it : word ≡ codes "-h" = cc in short it

pub no_help_after : {A : Type 0} (answer : Option A) (arguments : List (List ℕ)) (word option : List ℕ) → arguments ≡ word ∷ option ∷ []
    → IfNone answer (¬ Contains command_words word) → IfNone answer ((command : List ℕ) → ¬ AsksForHelp arguments command)
no_help_after (Some a) arguments word option is unknown = tt
no_help_after None arguments word option is unknown = rw is none
  where
    none : (command : List ℕ) → ¬ AsksForHelp (word ∷ option ∷ []) command
    none command (known, inl same) = let it : word ≡ codes "help" = cc in unknown (rw it (16, omega arith, refl))
    none command (known, inr (inl same)) = let it : word ≡ command = cc in unknown (rw it known)
    none command (known, inr (inr same)) = let it : word ≡ command = cc in unknown (rw it known)

-- a run's first word begins with c, j or s
abbrev BeginsRun : List (List ℕ) → Type 0
BeginsRun words =
    let letter = get_or (get_or words 0 []) 0 0 in
    (letter ≡ 99) ⊎ ((letter ≡ 106) ⊎ (letter ≡ 115))

verb_begins : (v : Verb) (rest : List (List ℕ)) → BeginsRun (verb_words v ++ rest)
verb_begins (Convert kind) rest = inl refl
verb_begins (Show kind) rest = inr (inr refl)
verb_begins (Judge judges.Max) rest = inr (inl refl)
verb_begins (Judge judges.Min) rest = inr (inl refl)
verb_begins (Judge judges.Infeasible) rest = inr (inl refl)
verb_begins (Judge judges.Paths) rest = inr (inl refl)
verb_begins (Certify judges.Max) rest = inl refl
verb_begins (Certify judges.Min) rest = inl refl
verb_begins (Certify judges.Infeasible) rest = inl refl
verb_begins (Certify judges.Paths) rest = inl refl
verb_begins (Spread spreads.Max) rest = inr (inr refl)
verb_begins (Spread spreads.Min) rest = inr (inr refl)
verb_begins (Solve (solves.Max limit)) rest = inr (inr refl)
verb_begins (Solve (solves.Min limit)) rest = inr (inr refl)
verb_begins (Solve solves.Paths) rest = inr (inr refl)

run_begins : (words : List (List ℕ)) (job : Job) → Asks words job → BeginsRun words
run_begins words job (options, is, takes, are) =
    let files = map string_bytes job.files.now in
    rw (is, append_assoc (verb_words job.verb) files options) (verb_begins job.verb (files ++ options))

pub begins_no_run : (words rest : List (List ℕ)) → words ≡ codes "explain" ∷ rest → (job : Job) → ¬ Asks words job
begins_no_run words rest is job asks =
    let letter : get_or (get_or words 0 []) 0 0 ≡ 101 = rw is refl in
    elim (run_begins words job asks) [
      | inl c ↦ omega (arith, letter, c)
      | inr (inl j) ↦ omega (arith, letter, j)
      | inr (inr s) ↦ omega (arith, letter, s)
    ]

-- a run has at least two words
verb_long : (v : Verb) (n : ℕ) → TakesFiles v n → 2 ≤ length (verb_words v) + n
verb_long (Convert kind) n takes = omega (arith)
verb_long (Show kind) n takes = omega (arith)
verb_long (Judge judges.Max) n takes = omega (arith, takes.0)
verb_long (Judge judges.Min) n takes = omega (arith, takes.0)
verb_long (Judge judges.Infeasible) n takes = omega (arith, takes.0)
verb_long (Judge judges.Paths) n takes = omega (arith, takes.0)
verb_long (Certify judges.Max) n takes = omega (arith, takes.0)
verb_long (Certify judges.Min) n takes = omega (arith, takes.0)
verb_long (Certify judges.Infeasible) n takes = omega (arith, takes.0)
verb_long (Certify judges.Paths) n takes = omega (arith, takes.0)
verb_long (Spread spreads.Max) n takes = omega (arith, takes.0)
verb_long (Spread spreads.Min) n takes = omega (arith, takes.0)
verb_long (Solve (solves.Max limit)) n takes = omega (arith, takes.0)
verb_long (Solve (solves.Min limit)) n takes = omega (arith, takes.0)
verb_long (Solve solves.Paths) n takes = omega (arith, takes.0)

pub run_long : (words : List (List ℕ)) (job : Job) → Asks words job → 2 ≤ length words
run_long words job (options, is, takes, are) =
    let files = map string_bytes job.files.now in
    rw is (omega (
      arith,
      length-append (verb_words job.verb ++ files) options,
      length-append (verb_words job.verb) files,
      length-map job.files.now string_bytes,
      verb_long job.verb (length job.files.now) takes,
    ))

-- no run begins with `-` or h
not_begun : (n : ℕ) → (n ≡ 45) ⊎ (n ≡ 104) → (n ≡ 99) ⊎ ((n ≡ 106) ⊎ (n ≡ 115)) → ⊥
not_begun n (inl dash) (inl c) = omega (arith, dash, c)
not_begun n (inl dash) (inr (inl j)) = omega (arith, dash, j)
not_begun n (inl dash) (inr (inr s)) = omega (arith, dash, s)
not_begun n (inr h) (inl c) = omega (arith, h, c)
not_begun n (inr h) (inr (inl j)) = omega (arith, h, j)
not_begun n (inr h) (inr (inr s)) = omega (arith, h, s)

module _ (words : List (List ℕ)) (unhelped : (command : List ℕ) → ¬ AsksForHelp words command) where
  -- a word for help or the version asks for nothing before more words
  pub not_alone : {A : Type 0} (answer : Option A) (word : List ℕ) (rest : List (List ℕ)) → words ≡ word ∷ rest → (get_or word 0 0 ≡ 45) ⊎ (get_or word 0 0 ≡ 104)
      → IfNone answer (rest ≢ []) → IfNone answer ((wanted : Request) → ¬ Requests words wanted)
  not_alone (Some a) word rest is begins more = tt
  not_alone None word rest is begins more = none
    where
      one : (only : List ℕ) → words ≡ only ∷ [] → ⊥
      one only same = let it : rest ≡ [] = cc in more it

      letters : (get_or (get_or words 0 []) 0 0 ≡ 45) ⊎ (get_or (get_or words 0 []) 0 0 ≡ 104)
      letters = rw is begins

      none : (wanted : Request) → ¬ Requests words wanted
      none Help (inl same) = one _ same
      none Help (inr (inl same)) = one _ same
      none Help (inr (inr same)) = one _ same
      none (HelpOn command) asked = unhelped command.now asked
      none Version (inl same) = one _ same
      none Version (inr same) = one _ same
      none (Run job) (asks, other) = not_begun _ letters (run_begins words job asks)
      none (Explain job) (command, same, asks) = elim letters [
        | inl dash ↦ let e : 101 ≡ 45 = ap (λ (w : List (List ℕ)). get_or (get_or w 0 []) 0 0) (sym same) ∙ dash in omega (arith, e)
        | inr h ↦ let e : 101 ≡ 104 = ap (λ (w : List (List ℕ)). get_or (get_or w 0 []) 0 0) (sym same) ∙ h in omega (arith, e)
      ]

  -- nor does `explain` before words that ask for no run
  pub no_explained : (rest : List (List ℕ)) → words ≡ codes "explain" ∷ rest → ((job : Job) → ¬ Asks rest job) → (wanted : Request) → ¬ Requests words wanted
  no_explained rest is none Help (inl same) = absurd cc
  no_explained rest is none Help (inr (inl same)) = absurd cc
  no_explained rest is none Help (inr (inr same)) = absurd cc
  no_explained rest is none (HelpOn command) asked = unhelped command.now asked
  no_explained rest is none Version (inl same) = absurd cc
  no_explained rest is none Version (inr same) = absurd cc
  no_explained rest is none (Run job) (asks, other) = begins_no_run words rest is job asks
  no_explained rest is none (Explain job) (command, same, asks) = let it : command ≡ rest = cc in none job (rw (← it) asks)

  -- nor do other words that ask for no run
  pub nothing_requested : (word : List ℕ) (rest : List (List ℕ)) → words ≡ word ∷ rest → word ≢ codes "explain" → word ≢ codes "--help" → word ≢ codes "-h" → word ≢ codes "help"
      → word ≢ codes "--version" → word ≢ codes "-V" → ((job : Job) → ¬ Asks words job) → (wanted : Request) → ¬ Requests words wanted
  nothing_requested word rest is explain help short plain version letter none Help (inl same) = help cc
  nothing_requested word rest is explain help short plain version letter none Help (inr (inl same)) = short cc
  nothing_requested word rest is explain help short plain version letter none Help (inr (inr same)) = plain cc
  nothing_requested word rest is explain help short plain version letter none (HelpOn command) asked = unhelped command.now asked
  nothing_requested word rest is explain help short plain version letter none Version (inl same) = version cc
  nothing_requested word rest is explain help short plain version letter none Version (inr same) = letter cc
  nothing_requested word rest is explain help short plain version letter none (Run job) (asks, other) = none job asks
  nothing_requested word rest is explain help short plain version letter none (Explain job) (command, same, asks) = explain cc
