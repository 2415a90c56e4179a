use Rattle.dimacs_claims.proofs.CutLemmas.{plain_context_by_records}
use Rattle.dimacs_claims.proofs.cut.CutBuilderBuilder.end_context.Goals as goal

pub returns-clause-of_records : goal.returns-clause-of_records
returns-clause-of_records c = λ rs h. rw (c.of.ensures, c.nodes.ensures, c.len.ensures.count) (plain_context_by_records _ rs (rw (← c.self.view_is) at h))
