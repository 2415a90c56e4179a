use Rattle.dimacs_judging.proofs.Distances as theory
use Rattle.dimacs_judging.proofs.laws.labels_give_distances.Goals as goal

pub returns : goal.returns
returns c = theory.labels_are_distances
