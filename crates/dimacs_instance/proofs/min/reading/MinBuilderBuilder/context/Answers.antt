use Rattle.std.proofs.Common.{refl}
use Rattle.dimacs_records.specs.declared.records.Record.TheVariants.{MinNode}
use Rattle.dimacs_instance.proofs.MinLemmas.{context_by_records}
use Rattle.dimacs_instance.proofs.min.reading.MinBuilderBuilder.context.Goals as goal

pub returns-in-MinNode-clause-of_records : goal.returns-in-MinNode-clause-of_records
returns-in-MinNode-clause-of_records g c = λ rs h.
    rw (c.end_context-in-MinNode.ensures.context, c.arcs.ensures, c.is_some.ensures, c.get.ensures, c.in-MinNode.is, ← c.self.view_is)
    (context_by_records _ (MinNode c.in-MinNode.id c.in-MinNode.supply) refl rs (rw (← c.self.view_is) at h))
