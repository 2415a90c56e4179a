-- Optimal flows, among all flows of whole numbers.
use Rattle.std.specs.Prelude.{List, ℤ, ◌≤ℤ◌}
use Rattle.dimacs_judging.specs.{Flows.{cost}, Feasible.{FeasibleMax, FeasibleMin, value}}
use Rattle.dimacs_instance.specs.{MaxFlows.{MaxValue}, MinFlows.{MinValue}}

-- the flow is feasible, and no feasible flow has a greater value
pub record Maximum (i : MaxValue) (x : List ℤ) : Type 0 where
  pub feasible : FeasibleMax i x
  pub greatest : (y : List ℤ) → FeasibleMax i y → value i y ≤ℤ value i x

-- the flow is feasible, and no feasible flow costs less
pub record Least (i : MinValue) (x : List ℤ) : Type 0 where
  pub feasible : FeasibleMin i x
  pub least : (y : List ℤ) → FeasibleMin i y → cost i.arcs x ≤ℤ cost i.arcs y

-- no flow is feasible
abbrev pub NoFlow : MinValue → Type 0
NoFlow i = (y : List ℤ) → ¬ FeasibleMin i y
