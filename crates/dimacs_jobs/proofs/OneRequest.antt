-- Words ask for one run, for one that is explained, or for none.
use Rattle.std.proofs.Common.{◌≡◌, ℕ, List, arith, ap, inl, inr, length, suc}
use Rattle.dimacs_jobs.specs.{declared.jobs.Job.{Job}, declared.jobs.Request.{Request}, Jobs.{HaveOnePlan, Requests}}
use Rattle.dimacs_jobs.specs.declared.jobs.Request.TheVariants.{Help, HelpOn, Version, Run, Explain}
use Rattle.dimacs_jobs.specs.OneRequest.{AskForNoRun, HasNoRun, OneRequestLaw}
use Rattle.dimacs_jobs.proofs.{RequestLemmas.{begins_no_run, run_long}, VerbLemmas.{one_plan}}

-- a run has at least two words, and one more if it is explained
one_word : (words : List (List ℕ)) → length words ≡ 1 → AskForNoRun words
one_word words one job = (
  λ run. omega (arith, one, run_long words job run.0),
  λ explain. let e : length words ≡ suc (length explain.0) = ap length explain.1 in omega (arith, one, e, run_long explain.0 job explain.2),
)

two_words : (words : List (List ℕ)) (job : Job) → length words ≡ 2 → ¬ Requests words (Explain job)
two_words words job two (command, same, asks) = let e : length words ≡ suc (length command) = ap length same in omega (arith, two, e, run_long command job asks)

without_run : (words : List (List ℕ)) (wanted : Request) → HasNoRun wanted → Requests words wanted → AskForNoRun words
without_run words Help none (inl is) = one_word words (ap length is)
without_run words Help none (inr (inl is)) = one_word words (ap length is)
without_run words Help none (inr (inr is)) = one_word words (ap length is)
without_run words (HelpOn command) none (known, how) = λ job. (
  λ run. run.1 command.now (known, how),
  two_words words job (elim how [
    | inl is ↦ ap length is
    | inr (inl is) ↦ ap length is
    | inr (inr is) ↦ ap length is
  ]),
)
without_run words Version none (inl is) = one_word words (ap length is)
without_run words Version none (inr is) = one_word words (ap length is)
without_run words (Run job) none asked = absurd none
without_run words (Explain job) none asked = absurd none

one_explained : (words : List (List ℕ)) (job other : Job) → Requests words (Explain job) → Requests words (Explain other) → HaveOnePlan job other
one_explained words job other (command, same, asks) (again, alike, more) = let it : again ≡ command = cc in one_plan command job other asks (rw (← it) more)

pub one_request : OneRequestLaw
one_request words = (
  without_run words,
  λ job other run explain. begins_no_run words explain.0 explain.1 job run.0,
  λ job other run again. one_plan words job other run.0 again.0,
  one_explained words,
)
