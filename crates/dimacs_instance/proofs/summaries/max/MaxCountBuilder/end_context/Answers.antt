use Rattle.dimacs_instance.proofs.MaxCountLemmas.{counted_end_by_records}
use Rattle.dimacs_instance.proofs.summaries.max.MaxCountBuilder.end_context.Goals as goal

pub returns-clause-of_records : goal.returns-clause-of_records
returns-clause-of_records c = λ rs counted. rw (c.plain_context.ensures, c.lacks_end.ensures, ← c.self.view_is) (counted_end_by_records _ rs (rw (← c.self.view_is) at counted))
