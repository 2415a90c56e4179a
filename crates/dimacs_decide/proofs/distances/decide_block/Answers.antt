use Rattle.dimacs_network.specs.Tables.{value_of}
use Rattle.dimacs_judging.specs.Tests.{Clear}
use Rattle.dimacs_decide.specs.{Distances.{claim_row, reach_row}, inside.TightTrees.{IsWholeTightTree}}
use Rattle.dimacs_decide.proofs.ClaimLemmas.{arc_refuted, certified, node_refuted, reaches_all, refused, source_refuted, zero_from_clear}
use Rattle.dimacs_decide.proofs.distances.decide_block.Goals as goal

pub returns-in_err-source_holds : goal.returns-in_err-source_holds
returns-in_err-source_holds g c =
    let claim = g.C.DistanceClaim.claimed c.args.claim.now in
    refused c.args.graph.now c.args.source claim _ _ (source_refuted c.args.graph.now c.args.source claim _ _ c.requires.source c.in_err-source_holds.ensures) _ c.from_residual.ensures.1

pub returns-in_err-arcs_hold : goal.returns-in_err-arcs_hold
returns-in_err-arcs_hold g c =
    let claim = g.C.DistanceClaim.claimed c.args.claim.now in
    let first = rw c.network-network.ensures.arcs at c.in_err-arcs_hold.ensures in
    refused c.args.graph.now c.args.source claim _ _ (arc_refuted c.args.graph.now c.args.source claim _ _ c.network-network.ensures.lawful.joined c.in_ok-source_holds.ensures first) _ c.from_residual-in_err-arcs_hold.ensures.1

pub tight_tree-requires-clause-claimed : goal.tight_tree-requires-clause-claimed
tight_tree-requires-clause-claimed g c = zero_from_clear c.args.source (g.C.DistanceClaim.claimed c.args.claim.now) c.in_ok-source_holds.ensures

pub returns-in_err-nodes_hold : goal.returns-in_err-nodes_hold
returns-in_err-nodes_hold g c =
    let claim = g.C.DistanceClaim.claimed c.args.claim.now in
    let arcs : Clear (claim_row c.args.graph.now.arcs claim) = rw c.network-network.ensures.arcs at c.in_ok-arcs_hold.ensures in
    let first = rw (c.network-network.ensures.nodes, c.network-network.ensures.arcs, c.in_ok-tree.ensures.source) at c.in_err-nodes_hold.ensures in
    refused c.args.graph.now c.args.source claim _ _ (node_refuted c.args.graph.now c.args.source claim _ _ (zero_from_clear c.args.source claim c.in_ok-source_holds.ensures) c.in_ok-source_holds.ensures arcs first) _ c.from_residual-in_err-nodes_hold.ensures.1

pub returns : goal.returns
returns g c =
    let value = c.args.graph.now in
    let claim = g.C.DistanceClaim.claimed c.args.claim.now in
    let tree = c.in_ok-tree.tree in
    let arcs : Clear (claim_row value.arcs claim) = rw c.network-network.ensures.arcs at c.in_ok-arcs_hold.ensures in
    let nodes : Clear (reach_row value c.args.source claim) = rw (c.network-network.ensures.nodes, c.network-network.ensures.arcs, c.in_ok-tree.ensures.source) at c.in_ok-nodes_hold.ensures in
    let whole : IsWholeTightTree value.nodes value.arcs claim tree.block (value_of tree.reached) = rw (c.network-network.ensures.nodes, c.network-network.ensures.arcs) at c.in_ok-tree.ensures.tree in
    let all = reaches_all value c.args.source claim tree.block (value_of tree.reached) nodes c.in_ok-tree.ensures.source whole in
    rw c.into_block.ensures (certified value c.args.source claim tree.block (value_of tree.reached) c.network-network.ensures.lawful.joined c.in_ok-tree.ensures.source whole.tree all arcs)
