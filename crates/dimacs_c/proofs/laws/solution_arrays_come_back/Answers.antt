use Rattle.dimacs_c.proofs.ClaimsBack.{solution_back}
use Rattle.dimacs_c.proofs.laws.solution_arrays_come_back.Goals as goal

pub returns : goal.returns
returns c = solution_back
