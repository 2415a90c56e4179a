-- The answer of a call over arrays, by the part that fails.
use Rattle.std.proofs.Common.{◌≡◌, ◌==◌, Bool, true, false, List, [], ◌∷◌, ◌++◌, Option, None, Some, Result, Ok, Err, cond, refl, subst, ◌∙◌}
use Rattle.std.proofs.{lemmas.Bool.{eqb-true}, lemmas.Result.{err_from_is_err_and}}
use Rattle.std.specs.Prelude.{IsErrAnd}
use Rattle.dimacs_judging.specs.{declared.verdict.JudgeError.{JudgeError}, Tests.{Row, AllClear}}
use Rattle.dimacs_judging.proofs.Firsts.{AllOneWay, none_first, one_first}
use Rattle.dimacs_arrays.specs.{declared.error.Array.{Array}, declared.error.ArrayError.{ArrayError}}
use Rattle.dimacs_arrays.specs.{declared.lengths.ArrayLength.{ArrayLength}, inside.Answers.{Spells}}
use Rattle.dimacs_arrays.specs.Answers.{AnswersArrays, first_misfit, of_judge}
use Rattle.dimacs_judging.specs.declared.verdict.JudgeError.TheVariants as judged
use Rattle.dimacs_arrays.specs.declared.error.ArrayError.TheVariants as errors

-- each array has the right length
abbrev pub AllFit : List ArrayLength → Type 0
AllFit [] = Unit {0}
AllFit (l ∷ lengths) = (l.found ≡ l.wanted) × AllFit lengths

fit_by : (b : Bool) (l : ArrayLength) (rest : Option Array) → (l.found == l.wanted) ≡ b → cond b rest (Some l.array) ≡ None → (l.found ≡ l.wanted) × (rest ≡ None)
fit_by true l rest same e = (eqb-true l.found l.wanted same, e)
fit_by false l rest apart e = absurd (cc)

pub all_fit : (lengths : List ArrayLength) → first_misfit lengths ≡ None → AllFit lengths
all_fit [] e = tt
all_fit (l ∷ lengths) e = let (here, rest) = fit_by (l.found == l.wanted) l (first_misfit lengths) refl e in (here, all_fit lengths rest)

-- the first array with a wrong length, in two joined lists
front_by : (b : Bool) (one rest more : Option Array) (array : Array) → (rest ≡ Some array → more ≡ Some array) → cond b rest one ≡ Some array → cond b more one ≡ Some array
front_by true one rest more array go e = go e
front_by false one rest more array go e = e

pub misfit_front : (lengths more : List ArrayLength) (array : Array) → first_misfit lengths ≡ Some array → first_misfit (lengths ++ more) ≡ Some array
misfit_front [] more array e = absurd (cc)
misfit_front (l ∷ lengths) more array e = front_by (l.found == l.wanted) (Some l.array) (first_misfit lengths) (first_misfit (lengths ++ more)) array (misfit_front lengths more array) e

after_by : (b : Bool) (array : Array) (rest all more : Option Array) → (rest ≡ None → all ≡ more) → cond b rest (Some array) ≡ None → cond b all (Some array) ≡ more
after_by true array rest all more go e = go e
after_by false array rest all more go e = absurd (cc)

pub misfit_after : (lengths more : List ArrayLength) → first_misfit lengths ≡ None → first_misfit (lengths ++ more) ≡ first_misfit more
misfit_after [] more e = refl
misfit_after (l ∷ lengths) more e = after_by (l.found == l.wanted) l.array (first_misfit lengths) (first_misfit (lengths ++ more)) (first_misfit more) (misfit_after lengths more) e

module _ {X : Type 0} (lengths : List ArrayLength) (limits : List Row) (lawful : Type 0) (answers : Result X JudgeError → Type 0) where
  module _ (fit : first_misfit lengths ≡ None) where
    --     a number is out of range
    pub tells_limit : {I : Type 0} (i : I) (error : ArrayError) → AllOneWay limits → (lawful → AllClear limits) → Spells {X = I} limits i (Err error) → (result : Result X ArrayError) → IsErrAnd result (λ e. e ≡ error)
        → AnswersArrays lengths limits lawful answers result
    tells_limit {I} i error one needed outcome result is = let p = err_from_is_err_and result is in rw (p.1, p.2) (by_error error outcome)
      where
        by_error : (error : ArrayError) → Spells {X = I} limits i (Err error) → AnswersArrays lengths limits lawful answers (Err error)
        by_error (errors.Length array) outcome = absurd outcome
        by_error (errors.Limit place reason) first = (fit, (λ law. none_first limits place reason (needed law) first), (first, λ other why also. one_first limits other place why reason one also first))
        by_error (errors.Refused place reason) outcome = absurd outcome
        by_error errors.Memory outcome = tt

    --     a test fails
    pub tells_refusal : lawful → (error : JudgeError) → answers (Err error) → (result : Result X ArrayError) → IsErrAnd result (λ e. e ≡ of_judge error) → AnswersArrays lengths limits lawful answers result
    tells_refusal law error outcome result is = let p = err_from_is_err_and result is in rw (p.1, p.2) (by_error error outcome)
      where
        by_error : (error : JudgeError) → answers (Err error) → AnswersArrays lengths limits lawful answers (Err (of_judge error))
        by_error (judged.Refused place reason) outcome = (fit, law, outcome)
        by_error judged.Memory outcome = tt

-- a call over arrays: the lengths that its instance and its claim need; the limits; the instance that is spelled,
-- when it is lawful, and the answer for it
pub record Call (X M : Type 0) : Type 1 where
  pub lengths : List ArrayLength
  pub claim_lengths : List ArrayLength
  pub limits : List Row
  pub spelled : M
  pub lawful : M → Type 0
  pub answers : M → Result X JudgeError → Type 0

-- the possible answers of such a call
abbrev pub CallAnswers : {X M : Type 0} → Call X M → Result X ArrayError → Type 0
CallAnswers call = AnswersArrays (call.lengths ++ call.claim_lengths) call.limits (call.lawful call.spelled) (call.answers call.spelled)

module _ {X M : Type 0} (call : Call X M) (fit : first_misfit call.lengths ≡ None) (claim_fit : first_misfit call.claim_lengths ≡ None) where
  all_lengths_fit : first_misfit (call.lengths ++ call.claim_lengths) ≡ None
  all_lengths_fit = misfit_after call.lengths call.claim_lengths fit ∙ claim_fit

  pub call_tells_limit : AllOneWay call.limits → (call.lawful call.spelled → AllClear call.limits) → (error : ArrayError) → Spells call.limits call.spelled (Err error)
      → (result : Result X ArrayError) → IsErrAnd result (λ e. e ≡ error) → CallAnswers call result
  call_tells_limit one needed error outcome result is =
      tells_limit (call.lengths ++ call.claim_lengths) call.limits (call.lawful call.spelled) (call.answers call.spelled) all_lengths_fit call.spelled error one needed outcome result is

  --   the call made the instance that is spelled
  module _ (made : M) (same : made ≡ call.spelled) (law : call.lawful made) where
    pub call_tells_refusal : (error : JudgeError) → call.answers made (Err error) → (result : Result X ArrayError) → IsErrAnd result (λ e. e ≡ of_judge error) → CallAnswers call result
    call_tells_refusal error outcome result is =
        tells_refusal (call.lengths ++ call.claim_lengths) call.limits (call.lawful call.spelled) (call.answers call.spelled) all_lengths_fit (subst call.lawful same law) error
        (subst (λ (m : M). call.answers m (Err error)) same outcome) result is

    pub call_tells : (x : X) → call.answers made (Ok x) → CallAnswers call (Ok x)
    call_tells x outcome = (all_lengths_fit, subst call.lawful same law, subst (λ (m : M). call.answers m (Ok x)) same outcome)
