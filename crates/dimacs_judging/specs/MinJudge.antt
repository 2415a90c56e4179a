-- Judging that a flow costs least.
use Rattle.std.specs.Prelude.{ℕ, ◌≡◌, ◌<◌, List, [], ◌∷◌, ◌++◌, length, ℤ}
use Rattle.dimacs_claims.specs.{Potentials.{PotentialsValue, potential_of}, SolutionTexts.{SolutionValue}}
use Rattle.dimacs_instance.specs.MinFlows.{MinValue}
use Rattle.dimacs_judging.specs.{Agreement.{value_row, nodes_row}, CertificateTests.{slack_row}, Feasible.{FeasibleMin}}
use Rattle.dimacs_judging.specs.{Claims.{Carries, claimed_flow, entry_row}, Flows.{cost}, Optimum.{Least}, Tests.{Row}}
use Rattle.dimacs_judging.specs.FlowTests.{bound_row, balance_row, min_demand, cost_through, cost_row}
use Rattle.dimacs_judging.specs.Potentials.{Slack}
use Rattle.dimacs_records.specs.Ranges.{IsWide}

-- the tests of a claimed flow, in order
abbrev pub min_claim_rows : MinValue → SolutionValue → List Row
min_claim_rows i s =
    let x = claimed_flow i.arcs s.entries in
    entry_row i.arcs s.entries
    ∷ bound_row i.arcs x
    ∷ balance_row i.nodes i.arcs (min_demand i) x
    ∷ cost_row i.arcs x
    ∷ value_row (cost i.arcs x) s.value s.value_line
    ∷ []

-- the tests of a solution and of potentials, in order
abbrev pub min_rows : MinValue → SolutionValue → PotentialsValue → List Row
min_rows i s p = min_claim_rows i s ++ nodes_row i.nodes p.nodes ∷ slack_row i.arcs (potential_of p) (claimed_flow i.arcs s.entries) ∷ []

-- the flow of the solution is feasible and has the claimed cost; the sums of the costs stay in range
pub record IsMinClaim (i : MinValue) (s : SolutionValue) (x : List ℤ) : Type 0 where
  pub carries : Carries i.arcs s.entries x
  pub feasible : FeasibleMin i x
  pub costs_wide : (k : ℕ) → k < length i.arcs → IsWide (cost_through i.arcs x k)
  pub cost_is : cost i.arcs x ≡ s.value

-- the flow is the claimed one, and the potentials are slack for it
pub record PassesMin (i : MinValue) (s : SolutionValue) (p : PotentialsValue) (x : List ℤ) : Type 0 where
  pub claim : IsMinClaim i s x
  pub nodes_are : p.nodes ≡ i.nodes
  pub slack : Slack i.arcs x (potential_of p)

-- a flow passes, and it costs least
abbrev pub ShowsLeast : MinValue → SolutionValue → PotentialsValue → Type 0
ShowsLeast i s p = (x : List ℤ) × PassesMin i s p x × Least i x
