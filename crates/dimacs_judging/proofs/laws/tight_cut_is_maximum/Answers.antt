use Rattle.dimacs_judging.proofs.Duality as theory
use Rattle.dimacs_judging.proofs.laws.tight_cut_is_maximum.Goals as goal

pub returns : goal.returns
returns c = theory.tight_is_maximum
