use Rattle.dimacs_facts.proofs.CycleLemmas as theory
use Rattle.dimacs_facts.proofs.laws.negative_cycle_has_no_distance.Goals as goal

pub returns : goal.returns
returns c = theory.no_distance
