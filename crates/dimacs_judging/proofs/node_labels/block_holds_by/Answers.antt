use Rattle.std.proofs.lemmas.Result.{err_from_is_err_and}
use Rattle.dimacs_judging.proofs.node_labels.block_holds_by.Goals as goal

pub returns-in_err-relax_block-clause-tests : goal.returns-in_err-relax_block-clause-tests
returns-in_err-relax_block-clause-tests g c =
    let p = err_from_is_err_and c.from_residual-in_err-relax_block.result c.from_residual-in_err-relax_block.ensures.1 in
    rw (p.1, p.2) c.in_err-relax_block.ensures.tests
