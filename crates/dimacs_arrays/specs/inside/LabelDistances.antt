-- Inside: distances by node, from labels, and the solver's refusals.
use Rattle.std.specs.Prelude.{ℕ, ◌≡◌, List, length, ℤ}
use Rattle.dimacs_lines.specs.Limits.{IsNode}
use Rattle.dimacs_claims.specs.Labels.{BlockValue, label}
use Rattle.dimacs_judging.specs.{declared.verdict.JudgeError.{JudgeError}, declared.verdict.Where.TheVariants.{Arc}}
use Rattle.dimacs_judging.specs.declared.verdict.JudgeError.TheVariants.{Refused, Memory}
use Rattle.dimacs_decide.specs.Claims.{claimed_by_node}
use Rattle.dimacs_solve.specs.declared.error.SolveError.{SolveError}
use Rattle.dimacs_records.specs.declared.reasons.Reason.TheVariants as reasons
use Rattle.dimacs_solve.specs.declared.error.SolveError.TheVariants as errors

-- the distance of each node by its label; none without one
pub record AreDistancesOf (nodes : ℕ) (b : BlockValue) (distances : List ℤ) : Type 0 where
  pub each : length distances ≡ nodes
  pub agrees : (v : ℕ) → IsNode nodes v → claimed_by_node distances v ≡ label b v

abbrev pub of_solver : SolveError → JudgeError
of_solver (errors.NegativeWeight k) = Refused (Arc k) reasons.NegativeWeight
of_solver (errors.Refused place reason) = Refused place reason
of_solver errors.Memory = Memory
