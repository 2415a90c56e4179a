-- Tests of a claim's own numbers against the instance.
use Rattle.std.specs.Prelude.{ℕ, ◌≢◌, ℤ}
use Rattle.dimacs_records.specs.declared.reasons.Reason.TheVariants.{ValueDiffers, NodesDiffer}
use Rattle.dimacs_judging.specs.{declared.verdict.Where.TheVariants.{Solution, Certificate}, Rows.{one_test}}
use Rattle.dimacs_judging.specs.Tests.{Row}

-- the claimed value isn't the flow's; it is the second field of its line
abbrev pub value_row : ℤ → ℤ → ℕ → Row
value_row value claimed line = one_test (Solution line 2) ValueDiffers (claimed ≢ value)

-- the certificate and the instance differ in the number of nodes
abbrev pub nodes_row : ℕ → ℕ → Row
nodes_row nodes claimed = one_test Certificate NodesDiffer (claimed ≢ nodes)
