use Rattle.std.proofs.{Common.{◌∙◌, ◌<◌, length, subst, sym, arith, ap}, lemmas.List.{length-set}}
use Rattle.std.proofs.lemmas.List.Elements.{All-get_or}
use Rattle.dimacs_lines.specs.Limits.{IsNode}
use Rattle.dimacs_claims.specs.Labels.{IsLabel, no_label}
use Rattle.dimacs_claims.proofs.ByIdLemmas.{fresh_apart}
use Rattle.dimacs_arrays.proofs.PredLemmas.{at_place, filled_all, filled_more}
use Rattle.dimacs_arrays.proofs.predecessors.predecessors_of.Goals as goal

pub loop-i-preserved : goal.loop-i-preserved
loop-i-preserved c =
    let labels = c.args.block.now.labels in
    let i = c.loop-i.i in
    let inside : i < length labels = omega (arith, c.loop-i-test.true, c.len-i-end.ensures, ap length c.labels-labels.ensures) in
    let node = (All-get_or (IsLabel c.args.nodes) labels i no_label inside c.requires.within).id in
    let more = filled_more labels (fresh_apart c.args.block.now.source labels c.requires.fresh) _ i inside (subst (λ n. IsNode n (at_place labels i).id) (sym c.loop-i.invariant.each) node) c.loop-i.invariant.filled in
    record {
      each = length-set _ _ _ ∙ c.loop-i.invariant.each;
      filled = rw (c.at-label.ensures, c.labels-labels.ensures) more;
    }

pub returns : goal.returns
returns c =
    filled_all _ (fresh_apart c.args.block.now.source _ c.requires.fresh) c.loop-i.predecessors.items c.args.nodes c.loop-i.i (omega (arith, c.loop-i-test.false, c.loop-i.auto.i-end, c.len-i-end.ensures, ap length c.labels-labels.ensures)) c.loop-i.invariant.each c.loop-i.invariant.filled
