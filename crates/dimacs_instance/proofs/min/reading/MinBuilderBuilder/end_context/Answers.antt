use Rattle.dimacs_instance.proofs.MinLemmas.{plain_context_by_records}
use Rattle.dimacs_instance.proofs.min.reading.MinBuilderBuilder.end_context.Goals as goal

pub returns-clause-of_records : goal.returns-clause-of_records
returns-clause-of_records g c = λ rs h. rw (c.of.ensures, c.nodes.ensures, c.arcs.ensures) (plain_context_by_records _ rs (rw (← c.self.view_is) at h))
