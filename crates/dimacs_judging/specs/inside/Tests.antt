-- Inside: rows of tests, in order, and the first test that fails.
use Rattle.std.specs.Prelude.{◌≡◌, ℕ, ℤ, pos, List, Option, None, Some, Result, Ok, Err}
use Rattle.dimacs_network.specs.declared.network.ArcView.{ArcView}
use Rattle.dimacs_records.specs.declared.reasons.Reason.{Reason}
use Rattle.dimacs_judging.specs.{declared.verdict.Where.{Where}, declared.verdict.JudgeError.{JudgeError}}
use Rattle.dimacs_judging.specs.declared.verdict.JudgeError.TheVariants.{Refused, Memory}
use Rattle.dimacs_judging.specs.{declared.balances.Balances.{Balances}, FlowTests.{AreBalances, feasible_rows}}
use Rattle.dimacs_judging.specs.Tests.{Row, AllClear, First, Refuses}

-- the result of rows of tests: all pass, or the first that fails
abbrev pub TestsRows : List Row → Result Unit (Where × Reason) → Type 0
TestsRows rows (Ok done) = AllClear rows
TestsRows rows (Err refusal) = First rows refusal.0 refusal.1

-- the same for tests that allocate; out of memory leaves them open
abbrev pub TestsAll : List Row → Result Unit JudgeError → Type 0
TestsAll rows (Ok done) = AllClear rows
TestsAll rows (Err (Refused place reason)) = First rows place reason
TestsAll rows (Err Memory) = Unit

-- the reason why a single test fails, if it does
abbrev pub NamesReason : (Reason → Type 0) → Option Reason → Type 0
NamesReason fails None = (reason : Reason) → ¬ fails reason
NamesReason fails (Some reason) = fails reason

-- this total if all tests pass, or the first that fails
abbrev pub TestsTotal : List Row → ℤ → Result ℤ JudgeError → Type 0
TestsTotal rows total (Ok sum) = (sum ≡ total) × AllClear rows
TestsTotal rows total (Err error) = Refuses (First rows) error

-- the balances of a feasible flow, or the first test that fails
abbrev pub TestsFeasible : ℕ → List ArcView → (ℕ → Option ℤ) → List ℤ → Result Balances JudgeError → Type 0
TestsFeasible nodes arcs demand x (Ok balances) = AreBalances arcs x balances × AllClear (feasible_rows nodes arcs demand x)
TestsFeasible nodes arcs demand x (Err error) = Refuses (First (feasible_rows nodes arcs demand x)) error

-- any balance will do, or 0
abbrev pub AsksNothing : Option ℤ → Type 0
AsksNothing demand = (d : ℤ) → demand ≡ Some d → d ≡ pos 0
