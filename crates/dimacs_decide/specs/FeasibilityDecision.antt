-- Decisions about a flow that keeps the bounds.
use Rattle.std.specs.Prelude.{ℕ, List, ℤ, pos, ◌-ℤ◌, ◌<ℤ◌}
use Rattle.dimacs_instance.specs.MinFlows.{MinValue, positive_part, supply_of}
use Rattle.dimacs_judging.specs.{Feasible.{FeasibleMin}, Flows.{net, sum_nodes}, InfeasibleJudge.{ShowsNoFlow}}
use Rattle.dimacs_decide.specs.{Bounds.{KeepsBounds}, declared.feasible.FeasibilityDecision.{FeasibilityDecision}}
use Rattle.dimacs_decide.specs.declared.feasible.FeasibilityDecision.TheVariants.{Balanced, Infeasible, LessExcess}

-- the imbalance of a node: its supply less its balance; an excess if positive, a deficit if negative
abbrev pub imbalance_at : MinValue → List ℤ → ℕ → ℤ
imbalance_at i x v = supply_of i v -ℤ net i.arcs x v

-- the sum of all excesses
abbrev pub total_excess : MinValue → List ℤ → ℤ
total_excess i x = sum_nodes (λ v. pos (positive_part (imbalance_at i x v))) i.nodes

-- the flow is feasible; or a set shows that no flow is; or the other flow keeps the bounds and leaves less excess
abbrev pub DecidesFeasible : MinValue → List ℤ → FeasibilityDecision → Type 0
DecidesFeasible i x Balanced = FeasibleMin i x
DecidesFeasible i x (Infeasible set) = ShowsNoFlow i set
DecidesFeasible i x (LessExcess y) = (¬ FeasibleMin i x) × KeepsBounds i.arcs y × (total_excess i y <ℤ total_excess i x)
