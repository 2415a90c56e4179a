use Rattle.std.proofs.Common.{◌≡◌, ◌∙◌, ◌+◌, true, false, is_some, ap, sym, arith}
use Rattle.dimacs_network.proofs.SkipLemmas.{skipped}
use Rattle.dimacs_judging.specs.Tests.{ClearBelow}
use Rattle.dimacs_judging.proofs.RowLemmas.{node_clear_end, node_clear_more, no_node_zero}
use Rattle.dimacs_decide.specs.Distances.{reach_row}
use Rattle.dimacs_decide.proofs.distances.nodes_hold.Goals.{else-is_some-via-then-is_some+else-not-reaches, else-is_some-via-else-is_some}
use Rattle.dimacs_decide.proofs.distances.nodes_hold.Goals as goal

pub loop-v-init : goal.loop-v-init
loop-v-init g c = record { low = omega arith; clear = no_node_zero _ _ }

pub loop-v-preserved : goal.loop-v-preserved
loop-v-preserved g c =
    let nodes = g.N.Network.node_count c.args.network.now in
    let row = reach_row (record { nodes = nodes; arcs = g.N.Network.list c.args.network.now }) c.args.tree.now.block.source (g.C.DistanceClaim.claimed c.args.claim.now) in
    let v = c.loop-v.v in
    let here : ClearBelow row (v + 1) = node_clear_more nodes _ v c.loop-v.invariant.clear (elim c.else-is_some.branch [
      | else-is_some-via-then-is_some+else-not-reaches w ↦ λ reason f. f.2 (c.requires.tree.tree.walks v (sym w.reaches.ensures ∙ w.if-not-reaches.false))
      | else-is_some-via-else-is_some w ↦ λ reason f. (let e : true ≡ false = sym f.1 ∙ (ap is_some (sym c.of.ensures.claimed) ∙ (sym c.is_some.ensures ∙ w.if-is_some.false)) in cc)
    ]) in
    record {
      low = omega (arith, c.next-v.ensures.onward);
      clear = skipped _ (ClearBelow row) _ _ _ c.next-v.ensures (λ u least below none clear. node_clear_more nodes _ u clear (λ reason f. (let e : true ≡ false = sym f.1 ∙ ap is_some none in cc))) here;
    }

pub returns : goal.returns
returns g c = node_clear_end _ _ c.loop-v.v (omega (arith, c.loop-v-test.false, c.nodes-end.ensures)) c.loop-v.invariant.clear
