use Rattle.dimacs_c.proofs.ArraysBack.{graph_back}
use Rattle.dimacs_c.proofs.laws.graph_arrays_come_back.Goals as goal

pub returns : goal.returns
returns c = graph_back
