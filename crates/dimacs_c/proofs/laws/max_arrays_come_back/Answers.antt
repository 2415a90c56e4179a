use Rattle.dimacs_c.proofs.ArraysBack.{max_back}
use Rattle.dimacs_c.proofs.laws.max_arrays_come_back.Goals as goal

pub returns : goal.returns
returns c = max_back
