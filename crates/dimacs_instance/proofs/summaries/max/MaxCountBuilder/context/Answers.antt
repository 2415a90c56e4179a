use Rattle.std.proofs.Common.{refl}
use Rattle.dimacs_records.specs.declared.records.Record.TheVariants.{MaxNode, MaxProblem}
use Rattle.dimacs_instance.proofs.MaxCountLemmas.{counted_by_records}
use Rattle.dimacs_instance.proofs.summaries.max.MaxCountBuilder.context.Goals as goal

pub returns-in-MaxNode-clause-of_records : goal.returns-in-MaxNode-clause-of_records
returns-in-MaxNode-clause-of_records c = λ rs counted.
    rw (c.in-MaxNode.is, c.plain_context.ensures, c.names.ensures, c.has.ensures, ← c.self.view_is) (counted_by_records _ rs (rw (← c.self.view_is) at counted) (MaxNode c.in-MaxNode.id c.in-MaxNode.end) refl)

pub returns-in-MaxProblem-clause-of_records : goal.returns-in-MaxProblem-clause-of_records
returns-in-MaxProblem-clause-of_records c = λ rs counted.
    rw (c.in-MaxProblem.is, c.plain_context-in-MaxProblem.ensures) (counted_by_records _ rs counted (MaxProblem c.in-MaxProblem.nodes c.in-MaxProblem.arcs) refl)
