use Rattle.std.proofs.{Common.{rules}, lemmas.Int.{to_z-of_z}}
use Rattle.std.specs.Int.{w128}
use Rattle.dimacs_arrays.proofs.ByNodeLemmas.{if_wider, wider_by}
use Rattle.dimacs_arrays.proofs.by_node.fit_array.Goals as goal

pub returns-clause-wider : goal.returns-clause-wider
returns-clause-wider c =
    let p = c.args.potentials.now in
    let shift = c.lowest_shift.result in
    let (least, is, moved) = c.lowest_shift.ensures.lowest in
    if_wider p shift (wider_by p least shift is moved) c.numbers_of-2.result (rw (to_z-of_z w128 shift (search rules)) at c.numbers_of-2.ensures.wider)
