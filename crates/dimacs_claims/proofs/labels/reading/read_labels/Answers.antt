use Rattle.dimacs_claims.proofs.labels.reading.read_labels.Goals as goal

pub returns-clause-reads : goal.returns-clause-reads
returns-clause-reads g c = λ text coming. rw c.in_ok-index.ensures (c.in_ok-labels.ensures.reads text coming)
