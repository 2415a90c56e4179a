-- Judging that an instance has no feasible flow.
use Rattle.std.specs.Prelude.{◌≡◌, List, [], ◌∷◌}
use Rattle.dimacs_claims.specs.Cuts.{CutValue}
use Rattle.dimacs_instance.specs.MinFlows.{MinValue}
use Rattle.dimacs_judging.specs.{Agreement.{nodes_row}, CertificateTests.{violated_row}, Cuts.{members}, Tests.{Row}}
use Rattle.dimacs_judging.specs.{Optimum.{NoFlow}, ViolatedSets.{Violated}}

-- the tests of a set, in order
abbrev pub infeasible_rows : MinValue → CutValue → List Row
infeasible_rows i c = nodes_row i.nodes c.nodes ∷ violated_row i (members c) ∷ []

-- the set is one of the instance's nodes, and its supply can't be met
pub record PassesInfeasible (i : MinValue) (c : CutValue) : Type 0 where
  pub nodes_are : c.nodes ≡ i.nodes
  pub violated : Violated i (members c)

-- the set passes, and no flow is feasible
abbrev pub ShowsNoFlow : MinValue → CutValue → Type 0
ShowsNoFlow i c = PassesInfeasible i c × NoFlow i
