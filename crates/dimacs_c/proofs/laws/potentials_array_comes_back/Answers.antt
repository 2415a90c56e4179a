use Rattle.dimacs_c.proofs.ClaimsBack.{potentials_back}
use Rattle.dimacs_c.proofs.laws.potentials_array_comes_back.Goals as goal

pub returns : goal.returns
returns c = potentials_back
