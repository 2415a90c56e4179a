use Rattle.dimacs_judging.proofs.BlockLemmas.{labels_of_block}
use Rattle.dimacs_judging.proofs.labels.labels_in.Goals as goal

pub returns : goal.returns
returns c = labels_of_block _ _ _ _ c.requires (rw c.blocks-2.ensures.blocks at c.index-blocks-block.is) c.labels.ensures
