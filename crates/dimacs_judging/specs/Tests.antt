-- Rows of tests, in order, and the first test that fails.
use Rattle.std.specs.Prelude.{ℕ, ◌≡◌, ◌<◌, ◌⊎◌, List, [], ◌∷◌, Result, Ok, Err}
use Rattle.dimacs_records.specs.declared.reasons.Reason.{Reason}
use Rattle.dimacs_judging.specs.{declared.verdict.Where.{Where}, declared.verdict.JudgeError.{JudgeError}}
use Rattle.dimacs_judging.specs.declared.verdict.JudgeError.TheVariants.{Refused, Memory}
use Rattle.dimacs_judging.specs.declared.verdict.Verdict.{Verdict}

-- a row of tests: the test with this number fails, at this place and for this reason
abbrev pub Row : Type 1
Row = ℕ → Where → Reason → Type 0

-- no test of the row below n fails
abbrev pub ClearBelow : Row → ℕ → Type 0
ClearBelow row n = (k : ℕ) → k < n → (place : Where) (reason : Reason) → ¬ row k place reason

-- no test of the row fails
abbrev pub Clear : Row → Type 0
Clear row = (k : ℕ) (place : Where) (reason : Reason) → ¬ row k place reason

-- a test of the row fails, and none before it does
pub record FirstOfRow (row : Row) (place : Where) (reason : Reason) : Type 0 where
  pub number : ℕ
  pub fails : row number place reason
  pub earlier : ClearBelow row number

-- no test of any row fails
abbrev pub AllClear : List Row → Type 0
AllClear [] = Unit {0}
AllClear (row ∷ rows) = Clear row × AllClear rows

-- the first test that fails: all rows before its own are clear
abbrev pub First : List Row → Where → Reason → Type 0
First [] place reason = ⊥
First (row ∷ rows) place reason = FirstOfRow row place reason ⊎ (Clear row × First rows place reason)

-- the test that a judge's refusal names; out of memory leaves the tests open
abbrev pub Refuses : (Where → Reason → Type 0) → JudgeError → Type 0
Refuses first (Refused place reason) = first place reason
Refuses first Memory = Unit

-- the result of a row of tests: all pass, or the first that fails
abbrev pub TestsRow : Row → Result Unit (Where × Reason) → Type 0
TestsRow row (Ok done) = Clear row
TestsRow row (Err refusal) = FirstOfRow row refusal.0 refusal.1

-- yes exactly if this holds; otherwise the first test that fails
abbrev pub Decides : Type 0 → List Row → Result Unit (Where × Reason) → Type 0
Decides holds rows (Ok done) = holds
Decides holds rows (Err refusal) = First rows refusal.0 refusal.1 × ¬ holds

-- this test is the first that fails, and no other is
abbrev pub FirstAlone : List Row → Where → Reason → Type 0
FirstAlone rows place reason = First rows place reason × ((other : Where) (why : Reason) → First rows other why → (other ≡ place) × (why ≡ reason))

-- the first test that fails, and this holds for no value; out of memory leaves it open
abbrev pub Refutes : {X : Type 0} → (X → Type 0) → List Row → JudgeError → Type 0
Refutes holds rows (Refused place reason) = FirstAlone rows place reason × ((x : _) → ¬ holds x)
Refutes holds rows Memory = Unit

-- yes with a value for which this holds; or the first test that fails, and it holds for none
abbrev pub Settles : {X : Type 0} → (X → Type 0) → List Row → Result X JudgeError → Type 0
Settles holds rows (Ok x) = holds x
Settles holds rows (Err error) = Refutes holds rows error

-- all tests pass, this holds and the verdict states it; or the first that fails, and it doesn't; or out of memory
abbrev pub Judges : List Row → Type 0 → (Verdict → Type 0) → Result Verdict JudgeError → Type 0
Judges rows holds states (Ok verdict) = AllClear rows × holds × states verdict
Judges rows holds states (Err (Refused place reason)) = FirstAlone rows place reason × ¬ holds
Judges rows holds states (Err Memory) = Unit
