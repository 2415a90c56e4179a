use Rattle.dimacs_instance.proofs.MaxCountLemmas.{gives_max_summary}
use Rattle.dimacs_instance.proofs.summaries.max.MaxCountBuilder.value.Goals as goal

pub returns : goal.returns
returns c = λ rs counted. gives_max_summary _ (rw (← c.self.view_is) at c.requires) _ _ c.in_order-source.ensures rs (rw (← c.self.view_is) at counted)
