use Rattle.dimacs_claims.proofs.labels.Labels.index.Goals as goal

pub index_others-requires-clause-lawful : goal.index_others-requires-clause-lawful
index_others-requires-clause-lawful c = rw c.deref.ensures.value (c.self.inside.nodes, c.self.invariant.0.blocks)
