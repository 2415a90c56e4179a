-- Inside: what placed entries claim.
use Rattle.std.specs.Prelude.{Result}
use Rattle.dimacs_claims.specs.{declared.place.Placed.{Placed}, SolutionTexts.{SolutionValue}}
use Rattle.dimacs_judging.specs.{declared.verdict.JudgeError.{JudgeError}, Places.{PlacesValue, StandsFor}}
use Rattle.dimacs_arrays.specs.{declared.solution.ClaimedFlow.{ClaimedFlow}, SolutionArrays.{ClaimsOver}}

-- what the solution whose entries were placed claims
abbrev pub ClaimsFlow : Placed PlacesValue → Result ClaimedFlow JudgeError → Type 0
ClaimsFlow placed result = (s : SolutionValue) → StandsFor placed s → ClaimsOver placed.place.arcs s result
