use Rattle.dimacs_arrays.proofs.MaxLemmas.{max_lawful}
use Rattle.dimacs_arrays.proofs.max.MaxArrays.instance.Goals as goal

pub over-requires : goal.over-requires
over-requires c =
    let ends = c.in_ok-ends_hold.ensures in
    rw c.in_ok-network.ensures.network (max_lawful c.args.self.now c.in_ok-counts_hold.ensures.limits.0 c.in_ok-counts_hold.ensures.limits.1 ends.source ends.sink ends.apart c.in_ok-network.ensures.arcs)

pub returns-clause-lawful : goal.returns-clause-lawful
returns-clause-lawful c =
    let ends = c.in_ok-ends_hold.ensures in
    rw (c.over.ensures, c.in_ok-network.ensures.network) (max_lawful c.args.self.now c.in_ok-counts_hold.ensures.limits.0 c.in_ok-counts_hold.ensures.limits.1 ends.source ends.sink ends.apart c.in_ok-network.ensures.arcs)
