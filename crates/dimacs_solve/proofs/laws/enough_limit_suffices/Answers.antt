use Rattle.dimacs_solve.proofs.ClimbingLemmas.{enough_limit}
use Rattle.dimacs_solve.proofs.laws.enough_limit_suffices.Goals as goal

pub returns : goal.returns
returns c = enough_limit
