use Rattle.dimacs_c.proofs.DistancesBack.{distances_back}
use Rattle.dimacs_c.proofs.laws.distances_array_comes_back.Goals as goal

pub returns : goal.returns
returns c = distances_back
