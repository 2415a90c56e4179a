use Rattle.dimacs_instance.specs.MinReading.{MinCount}
use Rattle.dimacs_instance.proofs.MinCountLemmas.{gives_nodes, supplies_law}
use Rattle.dimacs_instance.proofs.summaries.min.MinCountBuilder.value.Goals as goal

pub invariant_of-without_arcs : goal.invariant_of-without_arcs
invariant_of-without_arcs c =
    let inside = c.self.inside in
    let counted : MinCount = record { nodes = inside.nodes; declared = inside.declared; supplies = inside.supplies; arcs = inside.arcs } in
    rw c.new.ensures (supplies_law counted c.self.invariant)

pub returns : goal.returns
returns c = λ rs counted.
    let inside = c.self.inside in
    let kept : MinCount = record { nodes = inside.nodes; declared = inside.declared; supplies = inside.supplies; arcs = inside.arcs } in
    rw c.new.ensures (gives_nodes kept (rw (← c.self.view_is) at c.requires) rs (rw (← c.self.view_is) at counted))
