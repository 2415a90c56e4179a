use Rattle.dimacs_judging.proofs.Duality as theory
use Rattle.dimacs_judging.proofs.laws.violated_has_no_flow.Goals as goal

pub returns : goal.returns
returns c = theory.violated_has_no_flow
