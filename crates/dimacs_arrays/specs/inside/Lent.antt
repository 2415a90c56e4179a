-- Inside: whether arcs are in range.
use Rattle.std.specs.{Prelude.{ℕ, List, Result, Ok, Err}, List.{All}}
use Rattle.dimacs_network.specs.{declared.network.ArcView.{ArcView}, Arcs.{JoinsNodes}}
use Rattle.dimacs_instance.specs.MinFlows.{HasBounds}
use Rattle.dimacs_judging.specs.Tests.{FirstOfRow}
use Rattle.dimacs_arrays.specs.{Limits.{limit_row}, declared.limits.PastLimit.{PastLimit}}

-- the arc joins nodes, and its numbers are in range
abbrev pub IsInRange : ℕ → ArcView → Type 0
IsInRange nodes a = JoinsNodes nodes a × HasBounds a

-- all arcs are in range, or the first that isn't
abbrev pub TestsArcs : {X : Type 0} → ℕ → List ArcView → Result X PastLimit → Type 0
TestsArcs nodes arcs (Ok done) = All (IsInRange nodes) arcs
TestsArcs nodes arcs (Err limit) = FirstOfRow (limit_row nodes arcs) limit.place limit.reason
