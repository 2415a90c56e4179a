use Rattle.dimacs_claims.proofs.PotentialsLemmas.{potentials_faultless, one_potentials}
use Rattle.dimacs_claims.proofs.potentials.PotentialsBuilderBuilder.kind.Goals as goal

pub returns-clause-faultless : goal.returns-clause-faultless
returns-clause-faultless c = potentials_faultless

pub returns-clause-one_value : goal.returns-clause-one_value
returns-clause-one_value c = one_potentials
