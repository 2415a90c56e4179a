-- The result of solving maximum flow.
use Rattle.std.specs.Prelude.{ℕ, ◌<◌, Result, Ok, Err}
use Rattle.dimacs_claims.specs.{Cuts.{CutValue}, SolutionTexts.{SolutionValue, claimed}}
use Rattle.dimacs_instance.specs.MaxFlows.{MaxValue}
use Rattle.dimacs_judging.specs.MaxJudge.{ShowsMaximum}
use Rattle.dimacs_solve.specs.{declared.maximum.MaxAnswer.{MaxAnswer}, declared.error.SolveError.{SolveError}}
use Rattle.dimacs_solve.specs.{declared.maximum.MaxAnswer.TheVariants.{Optimal, GaveUp}, Climbing.{GivesUp}}
use Rattle.dimacs_solve.specs.declared.error.SolveError.TheVariants.{NegativeWeight, Refused, Memory}
use Rattle.dimacs_decide.specs.Entries.{IsSolutionOf}

-- an entry for every arc, and a cut that shows that the flow is maximum
abbrev pub IsOptimal : MaxValue → SolutionValue → CutValue → Type 0
IsOptimal i s cut = IsSolutionOf i.arcs s × ShowsMaximum i s cut

-- the result; with limit 0 it gives up; out of memory leaves the instance open, and no other error comes
abbrev pub SolvesMax : MaxValue → ℕ → Result MaxAnswer SolveError → Type 0
SolvesMax i limit (Ok (Optimal solution cut)) = (0 < limit) × IsOptimal i (claimed solution) cut
SolvesMax i limit (Ok GaveUp) = GivesUp i limit
SolvesMax i limit (Err (NegativeWeight arc)) = ⊥
SolvesMax i limit (Err (Refused place reason)) = ⊥
SolvesMax i limit (Err Memory) = Unit
