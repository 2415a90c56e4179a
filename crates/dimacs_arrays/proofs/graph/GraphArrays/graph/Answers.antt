use Rattle.dimacs_arrays.proofs.GraphLemmas.{graph_lawful}
use Rattle.dimacs_arrays.proofs.graph.GraphArrays.graph.Goals as goal

pub over-requires : goal.over-requires
over-requires c =
    rw c.in_ok-of.ensures.network (graph_lawful c.args.self.now c.in_ok-counts_hold.ensures.limits.0 c.in_ok-counts_hold.ensures.limits.1 c.in_ok-of.ensures.arcs)

pub returns-clause-lawful : goal.returns-clause-lawful
returns-clause-lawful c =
    rw (c.over.ensures, c.in_ok-of.ensures.network) (graph_lawful c.args.self.now c.in_ok-counts_hold.ensures.limits.0 c.in_ok-counts_hold.ensures.limits.1 c.in_ok-of.ensures.arcs)
