use Rattle.std.proofs.{Common.{◌∙◌, refl, arith}, lemmas.List.{take_all}, lemmas.Slice.Zip.{length-zip}}
use Rattle.std.specs.List.{zip}
use Rattle.dimacs_arrays.proofs.PathsOverLemmas.{pairs_more}
use Rattle.dimacs_arrays.proofs.paths_over.pairs_of.Goals as goal

pub loop-i-preserved : goal.loop-i-preserved
loop-i-preserved c = c.in_ok-push.ensures.items ∙ rw (c.loop-i.invariant, pairs_more c.args.froms.now c.args.tos.now c.loop-i.i c.requires c.loop-i-test.true) refl

pub returns : goal.returns
returns c =
    let froms = c.args.froms.now in
    let tos = c.args.tos.now in
    c.loop-i.invariant ∙ take_all c.loop-i.i (zip froms tos) (omega (arith, c.loop-i-test.false, c.loop-i.auto.i-end, length-zip froms tos))
