use Rattle.dimacs_instance.proofs.SummaryLemmas.{counted_by_records}
use Rattle.dimacs_instance.proofs.summaries.graph.GraphCountBuilder.end_context.Goals as goal

pub returns-clause-of_records : goal.returns-clause-of_records
returns-clause-of_records c = λ rs counted. rw c.of.ensures (counted_by_records c.args.self.now rs counted)
