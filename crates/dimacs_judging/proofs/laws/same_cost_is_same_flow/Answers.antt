use Rattle.dimacs_judging.proofs.SameCost as theory
use Rattle.dimacs_judging.proofs.laws.same_cost_is_same_flow.Goals as goal

pub returns : goal.returns
returns c = theory.same_cost
