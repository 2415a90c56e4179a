use Rattle.dimacs_claims.proofs.labels.reading.LabelsBuilderBuilder.keep.Goals as goal

pub open-requires-clause-passes : goal.open-requires-clause-passes
open-requires-clause-passes c = rw c.in-LabelsBlock.is at c.requires.passes
