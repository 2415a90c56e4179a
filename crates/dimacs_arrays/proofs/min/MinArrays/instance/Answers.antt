use Rattle.std.proofs.Common.{length, arith}
use Rattle.dimacs_arrays.specs.MinArrays.{min_arc}
use Rattle.dimacs_arrays.proofs.LentLemmas.{lent_many}
use Rattle.dimacs_arrays.proofs.min.MinArrays.instance.Goals as goal

pub over-requires-clause-few : goal.over-requires-clause-few
over-requires-clause-few c =
    let a = c.args.self.now in
    rw c.in_ok-network.ensures.network (omega (arith, c.in_ok-counts_hold.ensures.limits.1, lent_many (min_arc a) (length a.tails.now)))
