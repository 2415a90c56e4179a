-- Judging that a flow is maximum.
use Rattle.std.specs.Prelude.{◌≡◌, List, [], ◌∷◌, ◌++◌, ℤ}
use Rattle.dimacs_claims.specs.{Cuts.{CutValue}, SolutionTexts.{SolutionValue}}
use Rattle.dimacs_instance.specs.MaxFlows.{MaxValue}
use Rattle.dimacs_judging.specs.{Agreement.{value_row, nodes_row}, CertificateTests.{cut_rows}, Optimum.{Maximum}}
use Rattle.dimacs_judging.specs.{Claims.{Carries, claimed_flow, entry_row}, Cuts.{CutTight, members}, Tests.{Row}}
use Rattle.dimacs_judging.specs.{Feasible.{FeasibleMax, value}, FlowTests.{bound_row, balance_row, max_demand}}

-- the tests of a claimed flow, in order
abbrev pub max_claim_rows : MaxValue → SolutionValue → List Row
max_claim_rows i s =
    let x = claimed_flow i.arcs s.entries in
    entry_row i.arcs s.entries
    ∷ bound_row i.arcs x
    ∷ balance_row i.nodes i.arcs (max_demand i) x
    ∷ value_row (value i x) s.value s.value_line
    ∷ []

-- the tests of a solution and a cut, in order
abbrev pub max_rows : MaxValue → SolutionValue → CutValue → List Row
max_rows i s c = max_claim_rows i s ++ nodes_row i.nodes c.nodes ∷ cut_rows i (members c) (claimed_flow i.arcs s.entries)

-- the flow of the solution is feasible and has the claimed value
pub record IsMaxClaim (i : MaxValue) (s : SolutionValue) (x : List ℤ) : Type 0 where
  pub carries : Carries i.arcs s.entries x
  pub feasible : FeasibleMax i x
  pub value_is : value i x ≡ s.value

-- the flow is the claimed one, and the cut is tight for it
pub record PassesMax (i : MaxValue) (s : SolutionValue) (c : CutValue) (x : List ℤ) : Type 0 where
  pub claim : IsMaxClaim i s x
  pub nodes_are : c.nodes ≡ i.nodes
  pub tight : CutTight i x (members c)

-- a flow passes, and it is maximum
abbrev pub ShowsMaximum : MaxValue → SolutionValue → CutValue → Type 0
ShowsMaximum i s c = (x : List ℤ) × PassesMax i s c x × Maximum i x
