use Rattle.std.proofs.Common.{ap, sym, ◌∙◌}
use Rattle.dimacs_instance.specs.Summaries.{min_nodes}
use Rattle.dimacs_instance.proofs.MinTextLemmas.{min_faultless, one_min}
use Rattle.dimacs_instance.proofs.summaries.min.MinCountBuilder.kind.Goals as goal

pub returns-clause-faultless : goal.returns-clause-faultless
returns-clause-faultless c = λ rs s given. min_faultless rs given.0 given.1

pub returns-clause-one_value : goal.returns-clause-one_value
returns-clause-one_value c = λ rs s other given also. given.2 ∙ ap min_nodes (one_min rs given.0 also.0 given.1 also.1) ∙ sym also.2
