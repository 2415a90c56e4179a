use Rattle.dimacs_judging.proofs.Duality as theory
use Rattle.dimacs_judging.proofs.laws.slack_is_least.Goals as goal

pub returns : goal.returns
returns c = theory.slack_is_least
