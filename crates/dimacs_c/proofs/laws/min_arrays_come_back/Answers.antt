use Rattle.dimacs_c.proofs.ArraysBack.{min_back}
use Rattle.dimacs_c.proofs.laws.min_arrays_come_back.Goals as goal

pub returns : goal.returns
returns c = min_back
