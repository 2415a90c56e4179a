use Rattle.dimacs_facts.proofs.OnlyLemmas.{only_flow}
use Rattle.dimacs_facts.proofs.laws.no_other_flow.Goals as goal

pub returns : goal.returns
returns c = only_flow c.same_cost_is_same_flow.ensures
