use Rattle.std.proofs.Common.{refl}
use Rattle.dimacs_records.specs.declared.records.Record.TheVariants.{MinNode}
use Rattle.dimacs_instance.proofs.MinCountLemmas.{counted_by_records}
use Rattle.dimacs_instance.proofs.summaries.min.MinCountBuilder.context.Goals as goal

pub returns-in-MinNode-clause-of_records : goal.returns-in-MinNode-clause-of_records
returns-in-MinNode-clause-of_records c = λ rs counted.
    rw (c.end_context-in-MinNode.ensures.context, c.is_some.ensures, c.get.ensures, c.in-MinNode.is, ← c.self.view_is)
    (counted_by_records _ rs (rw (← c.self.view_is) at counted) (MinNode c.in-MinNode.id c.in-MinNode.supply) refl)
