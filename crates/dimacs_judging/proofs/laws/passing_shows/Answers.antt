use Rattle.dimacs_judging.proofs.PathsPassing as theory
use Rattle.dimacs_judging.proofs.laws.passing_shows.Goals as goal

pub returns : goal.returns
returns c = theory.passing_shows
