-- Decisions about the value of a flow.
use Rattle.std.specs.Prelude.{◌≡◌, List, ℤ, ◌<ℤ◌}
use Rattle.dimacs_instance.specs.MaxFlows.{MaxValue}
use Rattle.dimacs_judging.specs.{Cuts.{CutTight, members}, Feasible.{FeasibleMax, value}, Optimum.{Maximum}}
use Rattle.dimacs_decide.specs.declared.maximum.MaxDecision.{MaxDecision}
use Rattle.dimacs_decide.specs.declared.maximum.MaxDecision.TheVariants.{Optimal, Better}

-- the flow is maximum, and the cut is tight; or it isn't, and the other flow is feasible with a greater value
abbrev pub DecidesMax : MaxValue → List ℤ → MaxDecision → Type 0
DecidesMax i x (Optimal cut) = Maximum i x × CutTight i x (members cut) × (cut.nodes ≡ i.nodes)
DecidesMax i x (Better y) = (¬ Maximum i x) × FeasibleMax i y × (value i x <ℤ value i y)
