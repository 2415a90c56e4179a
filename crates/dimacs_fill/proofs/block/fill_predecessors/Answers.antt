use Rattle.std.proofs.Common.{◌∙◌, ◌<◌, length, refl, ap, arith}
use Rattle.dimacs_fill.specs.BlockFilled.{pred_in, preds_of}
use Rattle.dimacs_fill.proofs.{FillLemmas.{each_node}, BlockLemmas.{first_labels, preds_more}}
use Rattle.dimacs_fill.proofs.block.fill_predecessors.Goals as goal

pub loop-i-init : goal.loop-i-init
loop-i-init c =
    let b = c.args.block.now in
    c.fill.ensures (preds_of c.args.nodes (first_labels b 0)) (each_node (pred_in (first_labels b 0).labels) _ _ c.args.nodes refl (λ i x within e. e))

pub loop-i-preserved : goal.loop-i-preserved
loop-i-preserved c =
    let b = c.args.block.now in
    let inside : c.loop-i.i < length b.labels = omega (arith, c.loop-i-test.true, c.len-i-end.ensures, ap length c.labels-labels.ensures) in
    c.set_item.ensures
    ∙ rw (c.loop-i.invariant, c.at-label.ensures, c.labels-labels.ensures) (preds_more c.args.nodes b c.requires c.loop-i.i inside c.args.predecessors.now)
