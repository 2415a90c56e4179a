-- The results of functions whose tests all pass exactly if something holds.
use Rattle.std.proofs.Common.{◌≡◌, ◌∙◌, ap, inl, subst, List, [], ◌∷◌, ◌++◌, Result, Ok, Err, ℤ}
use Rattle.std.proofs.lemmas.Result.{err_from_is_err_and}
use Rattle.std.specs.Prelude.{IsErrAnd}
use Rattle.dimacs_records.specs.declared.reasons.Reason.{Reason}
use Rattle.dimacs_judging.specs.{declared.verdict.Where.{Where}, declared.verdict.JudgeError.{JudgeError}}
use Rattle.dimacs_judging.specs.{declared.verdict.JudgeError.TheVariants.{Refused, Memory}, inside.Tests.{TestsRows}}
use Rattle.dimacs_judging.specs.declared.verdict.Verdict.{Verdict}
use Rattle.dimacs_judging.specs.Tests.{Row, AllClear, First, TestsRow, Decides, Refutes, Settles, Judges, Refuses}
use Rattle.dimacs_judging.proofs.{Firsts.{AllOneWay, one_first, none_first}, RowLists.{first_in_front, first_after}}

pub decided : (holds : Type 0) (rows : List Row) → (AllClear rows → holds) → (holds → AllClear rows) → (outcome : Result Unit (Where × Reason)) → TestsRows rows outcome → Decides holds rows outcome
decided holds rows passing needed (Ok done) clear = passing clear
decided holds rows passing needed (Err refusal) first = (first, λ h. none_first rows refusal.0 refusal.1 (needed h) first)

-- a refusal refutes what holds only if all tests pass, if each test fails in only one way
pub refusal_refutes : {X : Type 0} (holds : X → Type 0) (rows : List Row) → AllOneWay rows → ((x : X) → holds x → AllClear rows) → (error : JudgeError) → Refuses (First rows) error → Refutes holds rows error
refusal_refutes holds rows one needed (Refused place reason) first = ((first, λ other why also. one_first rows other place why reason one also first), λ x h. none_first rows place reason (needed x h) first)
refusal_refutes holds rows one needed Memory first = tt

-- the same if the refusal is returned as the function's own error
pub error_settles : {X : Type 0} (holds : X → Type 0) (rows : List Row) → AllOneWay rows → ((x : X) → holds x → AllClear rows) → (error : JudgeError) → Refuses (First rows) error
    → (result : Result X JudgeError) → IsErrAnd result (λ e. e ≡ error) → Settles holds rows result
error_settles holds rows one needed error first result is = let p = err_from_is_err_and result is in rw (p.1, p.2) (refusal_refutes holds rows one needed error first)

pub refuted_refuses : {X : Type 0} (holds : X → Type 0) (rows : List Row) (error : JudgeError) → Refutes holds rows error → Refuses (First rows) error
refuted_refuses holds rows (Refused place reason) outcome = outcome.0.0
refuted_refuses holds rows Memory outcome = tt

-- what implies something refuted is refuted too
refuted_also : {X Y : Type 0} (holds : X → Type 0) (other : Y → Type 0) (rows : List Row) → ((y : Y) → other y → (x : X) × holds x) → (error : JudgeError) → Refutes holds rows error → Refutes other rows error
refuted_also holds other rows needs (Refused place reason) outcome = (outcome.0, λ y is. let (x, h) = needs y is in outcome.1 x h)
refuted_also holds other rows needs Memory outcome = tt

pub refuted_settles : {X Y : Type 0} (holds : X → Type 0) (other : Y → Type 0) (rows : List Row) → ((y : Y) → other y → (x : X) × holds x) → (error : JudgeError) → Refutes holds rows error
    → (result : Result Y JudgeError) → IsErrAnd result (λ e. e ≡ error) → Settles other rows result
refuted_settles holds other rows needs error outcome result is = let p = err_from_is_err_and result is in rw (p.1, p.2) (refuted_also holds other rows needs error outcome)

-- a single row
pub last_row : (row : Row) (outcome : Result Unit (Where × Reason)) → TestsRow row outcome → TestsRows (row ∷ []) outcome
last_row row (Ok done) clear = (clear, tt)
last_row row (Err refusal) first = inl first

-- ---- judges
-- the first test that fails, before other rows
pub refused_in_front : (rows more : List Row) (error : JudgeError) → Refuses (First rows) error → Refuses (First (rows ++ more)) error
refused_in_front rows more (Refused place reason) first = first_in_front rows more place reason first
refused_in_front rows more Memory first = tt

-- the first test that fails, after rows that pass
refused_after : (front rows more : List Row) (error : JudgeError) → AllClear front → Refuses (First rows) error → Refuses (First (front ++ (rows ++ more))) error
refused_after front rows more (Refused place reason) clear first = first_after front (rows ++ more) place reason clear (first_in_front rows more place reason first)
refused_after front rows more Memory clear first = tt

-- the same for the flow of a solution
pub refused_among : (tests : List ℤ → List Row) (x y : List ℤ) → x ≡ y → (front rows more : List Row) → front ++ (rows ++ more) ≡ tests x → (error : JudgeError) → AllClear front → Refuses (First rows) error → Refuses (First (tests y)) error
refused_among tests x y same front rows more are error clear first = subst (λ (all : List Row). Refuses (First all) error) (are ∙ ap tests same) (refused_after front rows more error clear first)

-- a judge's refusal, if each test fails in only one way and a yes needs all tests to pass
refusal_judges : (rows : List Row) (holds : Type 0) (states : Verdict → Type 0) → AllOneWay rows → (holds → AllClear rows) → (error : JudgeError) → Refuses (First rows) error → Judges rows holds states (Err error)
refusal_judges rows holds states one needed (Refused place reason) first = ((first, λ other why also. one_first rows other place why reason one also first), λ h. none_first rows place reason (needed h) first)
refusal_judges rows holds states one needed Memory first = tt

-- the same if the judge returns it as its own error
pub error_judges : (rows : List Row) (holds : Type 0) (states : Verdict → Type 0) → AllOneWay rows → (holds → AllClear rows) → (error : JudgeError) → Refuses (First rows) error
    → (result : Result Verdict JudgeError) → IsErrAnd result (λ e. e ≡ error) → Judges rows holds states result
error_judges rows holds states one needed error first result is = let p = err_from_is_err_and result is in rw (p.1, p.2) (refusal_judges rows holds states one needed error first)
