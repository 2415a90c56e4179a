use Rattle.std.proofs.Common.{◌∙◌, refl, ap, slice_set, arith}
use Rattle.dimacs_fill.proofs.FillLemmas.{at_end, fill_next}
use Rattle.dimacs_fill.proofs.filling.fill.Goals as goal

pub loop-i-init : goal.loop-i-init
loop-i-init g c = λ items are. refl

pub loop-i-preserved : goal.loop-i-preserved
loop-i-preserved g c = λ items are.
    ap (λ buffer. slice_set buffer c.loop-i.i c.item.result) (c.loop-i.invariant items are)
    ∙ fill_next items c.args.buffer.now c.loop-i.i c.item.result (are.each c.loop-i.i c.item.result (omega (arith, c.loop-i-test.true, c.min-i-end.ensures)) c.item.ensures) (omega (arith, c.loop-i-test.true, c.min-i-end.ensures))

pub returns : goal.returns
returns g c = λ items are.
    c.loop-i.invariant items are
    ∙ at_end items c.args.buffer.now c.loop-i.i c.args.count are.all (omega (arith, c.loop-i-test.false, c.loop-i.auto.i-end) ∙ c.min-i-end.ensures)
