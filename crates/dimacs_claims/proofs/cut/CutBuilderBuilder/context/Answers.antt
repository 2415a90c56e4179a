use Rattle.std.proofs.Common.{refl}
use Rattle.dimacs_records.specs.declared.records.Record.TheVariants.{CutNode, CutProblem}
use Rattle.dimacs_claims.proofs.CutLemmas.{context_by_records}
use Rattle.dimacs_claims.proofs.cut.CutBuilderBuilder.context.Goals as goal

pub returns-in-CutNode-clause-of_records : goal.returns-in-CutNode-clause-of_records
returns-in-CutNode-clause-of_records c = λ rs h.
    rw (c.end_context.ensures.context, c.contains.ensures, c.in-CutNode.is, ← c.self.view_is) (context_by_records _ (CutNode c.in-CutNode.id) refl rs (rw (← c.self.view_is) at h))

pub returns-in-CutProblem-clause-of_records : goal.returns-in-CutProblem-clause-of_records
returns-in-CutProblem-clause-of_records c = λ rs h. rw (c.end_context-in-CutProblem.ensures.context, c.in-CutProblem.is) (context_by_records _ (CutProblem c.in-CutProblem.nodes c.in-CutProblem.count) refl rs h)
