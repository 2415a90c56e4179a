use Rattle.std.proofs.Common.{IsTrue, false, refl}
use Rattle.dimacs_judging.specs.inside.Labels.{block_at}
use Rattle.dimacs_judging.proofs.BlockLemmas.{label_at-block}
use Rattle.dimacs_judging.proofs.RowLemmas.{support_clear_more, support_first, support_clear_end}
use Rattle.dimacs_judging.proofs.labels.labels_supported.Goals as goal

pub returns-then-not-is_supported : goal.returns-then-not-is_supported
returns-then-not-is_supported g c =
    let block = block_at c.args.labels.now.blocks c.args.block in
    let labels_are = c.labels_in-list.ensures in
    let off = rw (c.label.ensures.label, label_at-block _ _ _ c.requires, c.at-label.ensures, labels_are) at c.if-not-is_supported.ensures.1 in
    let inside = rw (c.len-i-end.ensures, labels_are) at c.loop-i-test.true in
    rw (c.at-label.ensures, labels_are) (support_first (g.N.Network.list c.args.network.now) block c.loop-i.i inside c.loop-i.invariant (λ has. let f : IsTrue false = off has in cc))

pub loop-i-preserved : goal.loop-i-preserved
loop-i-preserved g c =
    let block = block_at c.args.labels.now.blocks c.args.block in
    let labels_are = c.labels_in-list.ensures in
    support_clear_more (g.N.Network.list c.args.network.now) block c.loop-i.i c.loop-i.invariant (rw (c.label.ensures.label, label_at-block _ _ _ c.requires, c.at-label.ensures, labels_are) at (c.if-not-is_supported.ensures.0 refl))

pub returns : goal.returns
returns g c =
    let block = block_at c.args.labels.now.blocks c.args.block in
    support_clear_end (g.N.Network.list c.args.network.now) block c.loop-i.i (rw (c.len-i-end.ensures, c.labels_in-list.ensures) at c.loop-i-test.false) c.loop-i.invariant
