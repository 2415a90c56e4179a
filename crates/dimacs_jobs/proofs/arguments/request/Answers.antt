use Rattle.std.specs.{Prelude.{codes}, String.{string_bytes}}
use Rattle.std.proofs.Common.{◌≡◌, ◌≢◌, ◌∷◌, [], IfNone, List, None, Option, Some, ap, get_or, inl, inr, map, refl, ℕ}
use Rattle.dimacs_jobs.proofs.RequestLemmas.{no_explained, not_alone, nothing_requested}
use Rattle.dimacs_jobs.proofs.arguments.request.Goals as goal

first_word : {A : Type 0} (f : A → List ℕ) (arguments : List A) (first : A) (rest : List A) (word verb : List ℕ) → arguments ≡ first ∷ rest → word ≡ f first → word ≡ verb → map f arguments ≡ verb ∷ map f rest
first_word f arguments first rest word verb is is_word is_verb = rw (is, ← is_word, is_verb) refl

abbrev letter : List ℕ → ℕ
letter word = get_or word 0 0

no_rest : {A B : Type 0} (f : A → List ℕ) (answer : Option B) (rest : List A) → IfNone answer (rest ≢ []) → IfNone answer (map f rest ≢ [])
no_rest f (Some b) rest more = tt
no_rest f None [] more = absurd (more refl)
no_rest f None (x ∷ rest) more = λ same. absurd cc

pub returns-in_ok-job-in-explain-clause-requested : goal.returns-in_ok-job-in-explain-clause-requested
returns-in_ok-job-in-explain-clause-requested c = (
  map string_bytes c.in_ok-first.rest.now,
  first_word string_bytes c.args.arguments.now c.in_ok-first.first.now c.in_ok-first.rest.now c.as_str.result.now (codes "explain") c.in_ok-first.ensures.cases.0 c.as_str.ensures.value c.in-explain.is,
  c.in_ok-job-in-explain.ensures.asked,
)

pub returns-in_err-job-in-explain-clause-not_requested : goal.returns-in_err-job-in-explain-clause-not_requested
returns-in_err-job-in-explain-clause-not_requested c = rw c.from_residual-in_err-job-in-explain.ensures
    (no_explained (map string_bytes c.args.arguments.now) c.in_default.ensures.not_asked (map string_bytes c.in_ok-first.rest.now)
    (first_word string_bytes c.args.arguments.now c.in_ok-first.first.now c.in_ok-first.rest.now c.as_str.result.now (codes "explain") c.in_ok-first.ensures.cases.0 c.as_str.ensures.value c.in-explain.is)
    c.in_err-job-in-explain.ensures.not_asked)

pub returns-in_err-job-in_default-as_str-clause-not_requested : goal.returns-in_err-job-in_default-as_str-clause-not_requested
returns-in_err-job-in_default-as_str-clause-not_requested c =
    let w = c.in_default-as_str in
    rw c.from_residual-in_err-job-in_default-as_str.ensures
    (nothing_requested (map string_bytes c.args.arguments.now) c.in_default.ensures.not_asked c.as_str.result.now (map string_bytes c.in_ok-first.rest.now)
    (first_word string_bytes c.args.arguments.now c.in_ok-first.first.now c.in_ok-first.rest.now c.as_str.result.now _ c.in_ok-first.ensures.cases.0 c.as_str.ensures.value refl)
    w.not-explain w.not-text w.not-text-2 w.not-help w.not-text-3 w.not-text-4 c.in_err-job-in_default-as_str.ensures.not_asked)

pub returns-in-text-2-clause-not_requested : goal.returns-in-text-2-clause-not_requested
returns-in-text-2-clause-not_requested c =
    not_alone (map string_bytes c.args.arguments.now) c.in_default.ensures.not_asked c.alone-in-text-2.result c.as_str.result.now (map string_bytes c.in_ok-first.rest.now)
    (first_word string_bytes c.args.arguments.now c.in_ok-first.first.now c.in_ok-first.rest.now c.as_str.result.now _ c.in_ok-first.ensures.cases.0 c.as_str.ensures.value refl)
    (elim c.in-text-2.is [
      | inl long ↦ inl (ap letter long)
      | inr short ↦ inl (ap letter short)
    ]) (no_rest string_bytes c.alone-in-text-2.result c.in_ok-first.rest.now c.alone-in-text-2.ensures.not_alone)

pub returns-in-text-clause-not_requested : goal.returns-in-text-clause-not_requested
returns-in-text-clause-not_requested c =
    not_alone (map string_bytes c.args.arguments.now) c.in_default.ensures.not_asked c.alone.result c.as_str.result.now (map string_bytes c.in_ok-first.rest.now)
    (first_word string_bytes c.args.arguments.now c.in_ok-first.first.now c.in_ok-first.rest.now c.as_str.result.now _ c.in_ok-first.ensures.cases.0 c.as_str.ensures.value refl)
    (elim c.in-text.is [
      | inl long ↦ inl (ap letter long)
      | inr (inl short) ↦ inl (ap letter short)
      | inr (inr plain) ↦ inr (ap letter plain)
    ]) (no_rest string_bytes c.alone.result c.in_ok-first.rest.now c.alone.ensures.not_alone)
