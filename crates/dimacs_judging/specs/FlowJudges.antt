-- Judging a flow itself, without a solution and its claimed value.
use Rattle.std.specs.Prelude.{ℕ, ◌<◌, Bool, List, [], ◌∷◌, ◌++◌, length, ℤ}
use Rattle.dimacs_instance.specs.{MaxFlows.{MaxValue}, MinFlows.{MinValue}}
use Rattle.dimacs_records.specs.Ranges.{IsWide}
use Rattle.dimacs_judging.specs.{CertificateTests.{cut_rows, slack_row}, Cuts.{CutTight}, Optimum.{Maximum, Least}}
use Rattle.dimacs_judging.specs.{Feasible.{FeasibleMax, FeasibleMin}, Potentials.{Slack}, Tests.{Row}}
use Rattle.dimacs_judging.specs.FlowTests.{feasible_max_rows, feasible_min_rows, cost_row, cost_through}

-- the tests of a flow and a cut, in order
abbrev pub max_flow_rows : MaxValue → List ℤ → (ℕ → Bool) → List Row
max_flow_rows i x set = feasible_max_rows i x ++ cut_rows i set x

-- the flow is feasible, and the cut is tight for it
pub record PassesMaxFlow (i : MaxValue) (x : List ℤ) (set : ℕ → Bool) : Type 0 where
  pub feasible : FeasibleMax i x
  pub tight : CutTight i x set

-- the flow passes, and it is maximum
abbrev pub ShowsMaxFlow : MaxValue → List ℤ → (ℕ → Bool) → Type 0
ShowsMaxFlow i x set = PassesMaxFlow i x set × Maximum i x

-- the tests of a flow, of the range of its costs, and of potentials, in order
abbrev pub min_flow_rows : MinValue → List ℤ → (ℕ → ℤ) → List Row
min_flow_rows i x p = feasible_min_rows i x ++ cost_row i.arcs x ∷ slack_row i.arcs p x ∷ []

-- the flow is feasible, the sums of its costs stay in range, and the potentials are slack
pub record PassesMinFlow (i : MinValue) (x : List ℤ) (p : ℕ → ℤ) : Type 0 where
  pub feasible : FeasibleMin i x
  pub costs_wide : (k : ℕ) → k < length i.arcs → IsWide (cost_through i.arcs x k)
  pub slack : Slack i.arcs x p

-- the flow passes, and it costs least
abbrev pub ShowsMinFlow : MinValue → List ℤ → (ℕ → ℤ) → Type 0
ShowsMinFlow i x p = PassesMinFlow i x p × Least i x
