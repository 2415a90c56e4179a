use Rattle.dimacs_c.proofs.ClaimsBack.{cut_back}
use Rattle.dimacs_c.proofs.laws.cut_array_comes_back.Goals as goal

pub returns : goal.returns
returns c = cut_back
