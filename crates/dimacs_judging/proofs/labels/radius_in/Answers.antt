use Rattle.dimacs_judging.proofs.BlockLemmas.{radius_of_block}
use Rattle.dimacs_judging.proofs.labels.radius_in.Goals as goal

pub returns : goal.returns
returns c = radius_of_block _ _ _ _ c.requires (rw c.blocks-2.ensures.blocks at c.index-blocks-block.is) c.radius.ensures
