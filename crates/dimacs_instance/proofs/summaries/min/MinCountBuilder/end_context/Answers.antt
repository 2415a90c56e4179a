use Rattle.dimacs_instance.proofs.MinCountLemmas.{counted_lines_by_records}
use Rattle.dimacs_instance.proofs.summaries.min.MinCountBuilder.end_context.Goals as goal

pub returns-clause-of_records : goal.returns-clause-of_records
returns-clause-of_records c = λ rs counted. rw c.of.ensures (counted_lines_by_records _ rs (rw (← c.self.view_is) at counted))
