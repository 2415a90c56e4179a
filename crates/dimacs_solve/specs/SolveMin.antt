-- The result of solving minimum cost flow.
use Rattle.std.specs.Prelude.{ℕ, ◌≡◌, Result, Ok, Err}
use Rattle.dimacs_claims.specs.{Potentials.{PotentialsValue}, SolutionTexts.{SolutionValue, claimed}}
use Rattle.dimacs_instance.specs.MinFlows.{MinValue}
use Rattle.dimacs_judging.specs.{Claims.{Carries}, InfeasibleJudge.{ShowsNoFlow}, MinJudge.{ShowsLeast}}
use Rattle.dimacs_solve.specs.{declared.error.SolveError.{SolveError}, declared.least.MinAnswer.{MinAnswer}}
use Rattle.dimacs_solve.specs.declared.error.SolveError.TheVariants.{NegativeWeight, Refused, Memory}
use Rattle.dimacs_solve.specs.declared.least.MinAnswer.TheVariants.{Optimal, Infeasible, GaveUp}
use Rattle.dimacs_solve.specs.Descending.{GivesUpMin, start_flow}
use Rattle.dimacs_decide.specs.Entries.{IsSolutionOf}

-- an entry for every arc, and potentials that show that the flow costs least; with limit 0 it is the start flow
abbrev pub IsLeastAnswer : MinValue → ℕ → SolutionValue → PotentialsValue → Type 0
IsLeastAnswer i limit s p = IsSolutionOf i.arcs s × ShowsLeast i s p × (limit ≡ 0 → Carries i.arcs s.entries (start_flow i.arcs))

-- the result; out of memory leaves the instance open, and no other error comes
abbrev pub SolvesMin : MinValue → ℕ → Result MinAnswer SolveError → Type 0
SolvesMin i limit (Ok (Optimal solution potentials)) = IsLeastAnswer i limit (claimed solution) potentials
SolvesMin i limit (Ok (Infeasible set)) = ShowsNoFlow i set
SolvesMin i limit (Ok GaveUp) = GivesUpMin i limit
SolvesMin i limit (Err (NegativeWeight arc)) = ⊥
SolvesMin i limit (Err (Refused place reason)) = ⊥
SolvesMin i limit (Err Memory) = Unit
