-- Decisions about an instance.
use Rattle.dimacs_instance.specs.MinFlows.{MinValue}
use Rattle.dimacs_judging.specs.{Feasible.{FeasibleMin}, InfeasibleJudge.{ShowsNoFlow}}
use Rattle.dimacs_decide.specs.declared.infeasible.Feasibility.{Feasibility}
use Rattle.dimacs_decide.specs.declared.infeasible.Feasibility.TheVariants.{Feasible, Infeasible}

-- a set of nodes shows that no flow is feasible; or the flow is feasible
abbrev pub DecidesInfeasible : MinValue → Feasibility → Type 0
DecidesInfeasible i (Infeasible set) = ShowsNoFlow i set
DecidesInfeasible i (Feasible x) = FeasibleMin i x
