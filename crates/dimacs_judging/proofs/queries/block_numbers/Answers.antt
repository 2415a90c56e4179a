use Rattle.std.proofs.Common.{rules}
use Rattle.dimacs_network.proofs.Nodes.{get-empty}
use Rattle.dimacs_judging.proofs.BlockNumbers.{numbers_more}
use Rattle.dimacs_judging.proofs.queries.block_numbers.Goals as goal

pub loop-i-init : goal.loop-i-init
loop-i-init c = λ source. rw c.new-numbers.ensures (get-empty source)

pub loop-i-preserved : goal.loop-i-preserved
loop-i-preserved c =
    rw (c.in_ok-set.ensures.set, c.source.ensures) (numbers_more c.args.labels.now.blocks c.loop-i.numbers c.loop-i.i c.block-item.result (search rules) (search rules) c.blocks-block-items.ensures.lawful.sources c.loop-i.invariant)
