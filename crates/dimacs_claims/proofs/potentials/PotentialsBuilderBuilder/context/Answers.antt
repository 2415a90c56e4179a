use Rattle.std.proofs.Common.{refl}
use Rattle.dimacs_records.specs.declared.records.Record.TheVariants.{PotentialsNode, PotentialsProblem}
use Rattle.dimacs_claims.proofs.PotentialsLemmas.{context_by_records}
use Rattle.dimacs_claims.proofs.potentials.PotentialsBuilderBuilder.context.Goals as goal

pub returns-in-PotentialsNode-clause-of_records : goal.returns-in-PotentialsNode-clause-of_records
returns-in-PotentialsNode-clause-of_records c = λ rs h.
    rw (c.end_context.ensures.context, c.is_some.ensures, c.get.ensures, c.in-PotentialsNode.is, ← c.self.view_is)
    (context_by_records _ (PotentialsNode c.in-PotentialsNode.id c.in-PotentialsNode.value) refl rs (rw (← c.self.view_is) at h))

pub returns-in-PotentialsProblem-clause-of_records : goal.returns-in-PotentialsProblem-clause-of_records
returns-in-PotentialsProblem-clause-of_records c = λ rs h. rw (c.end_context-in-PotentialsProblem.ensures.context, c.in-PotentialsProblem.is) (context_by_records _ (PotentialsProblem c.in-PotentialsProblem.nodes c.in-PotentialsProblem.count) refl rs h)
