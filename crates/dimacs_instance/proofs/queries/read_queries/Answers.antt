use Rattle.dimacs_instance.proofs.queries.read_queries.Goals as goal

pub returns-in-Ok-clause-reads : goal.returns-in-Ok-clause-reads
returns-in-Ok-clause-reads g c = λ text coming. rw c.into_queries.ensures.same (rw c.in-Ok.is at (c.read_counted.ensures.reads text coming))

pub returns-in-Err-clause-reads : goal.returns-in-Err-clause-reads
returns-in-Err-clause-reads g c = λ text coming. rw c.in-Err.is at (c.read_counted.ensures.reads text coming)
