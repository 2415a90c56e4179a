use Rattle.dimacs_c.proofs.DistancesBack.{labels_back}
use Rattle.dimacs_c.proofs.laws.label_arrays_come_back.Goals as goal

pub returns : goal.returns
returns c = labels_back
