use Rattle.dimacs_claims.proofs.CutLemmas.{cut_faultless, one_cut}
use Rattle.dimacs_claims.proofs.cut.CutBuilderBuilder.kind.Goals as goal

pub returns-clause-faultless : goal.returns-clause-faultless
returns-clause-faultless c = cut_faultless

pub returns-clause-one_value : goal.returns-clause-one_value
returns-clause-one_value c = one_cut
