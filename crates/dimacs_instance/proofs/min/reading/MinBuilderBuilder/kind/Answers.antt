use Rattle.dimacs_instance.proofs.MinTextLemmas.{min_faultless, one_min}
use Rattle.dimacs_instance.proofs.min.reading.MinBuilderBuilder.kind.Goals as goal

pub returns-clause-faultless : goal.returns-clause-faultless
returns-clause-faultless g c = min_faultless

pub returns-clause-one_value : goal.returns-clause-one_value
returns-clause-one_value g c = one_min
