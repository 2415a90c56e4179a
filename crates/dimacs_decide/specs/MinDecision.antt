-- Decisions about the cost of a flow.
use Rattle.std.specs.Prelude.{◌≡◌, List, ℤ, ◌<ℤ◌}
use Rattle.dimacs_claims.specs.Potentials.{potential_of}
use Rattle.dimacs_instance.specs.MinFlows.{MinValue}
use Rattle.dimacs_judging.specs.{Feasible.{FeasibleMin}, Flows.{cost}, Optimum.{Least}, Potentials.{Slack}}
use Rattle.dimacs_decide.specs.declared.least.MinDecision.{MinDecision}
use Rattle.dimacs_decide.specs.declared.least.MinDecision.TheVariants.{Optimal, Better}

-- the flow costs least, and the potentials are slack; or it doesn't, and the other flow is feasible and costs less
abbrev pub DecidesMin : MinValue → List ℤ → MinDecision → Type 0
DecidesMin i x (Optimal p) = Least i x × Slack i.arcs x (potential_of p) × (p.nodes ≡ i.nodes)
DecidesMin i x (Better y) = (¬ Least i x) × FeasibleMin i y × (cost i.arcs y <ℤ cost i.arcs x)
