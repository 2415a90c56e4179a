use Rattle.std.proofs.{Common.{◌<◌, length}, lemmas.Result.{err_from_is_err_and}}
use Rattle.dimacs_judging.proofs.BlockLemmas.{blocks_more, blocks_first}
use Rattle.dimacs_judging.proofs.labels.blocks_hold.Goals as goal

pub returns-in_err-block_holds-clause-tests : goal.returns-in_err-block_holds-clause-tests
returns-in_err-block_holds-clause-tests g c =
    let inside : c.loop-block.block < length c.args.labels.now.blocks = rw c.blocks-block-end.ensures.blocks at c.loop-block-test.true in
    let p = err_from_is_err_and c.from_residual.result c.from_residual.ensures.1 in
    rw (p.1, p.2) (blocks_first _ _ c.loop-block.block _ _ inside c.loop-block.invariant c.in_err-block_holds.ensures)

pub loop-block-preserved : goal.loop-block-preserved
loop-block-preserved g c =
    let inside : c.loop-block.block < length c.args.labels.now.blocks = rw c.blocks-block-end.ensures.blocks at c.loop-block-test.true in
    blocks_more _ _ c.loop-block.block inside c.loop-block.invariant c.in_ok-block_holds.ensures
