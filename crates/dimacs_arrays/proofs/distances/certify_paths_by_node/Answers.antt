use Rattle.std.proofs.{Common.{◌≡◌, ◌∷◌, []}, lemmas.List.Elements.{All-head}}
use Rattle.dimacs_claims.specs.Labels.{IsBlock}
use Rattle.dimacs_decide.specs.Claims.{claimed_by_node}
use Rattle.dimacs_arrays.specs.inside.PredecessorsOf.{ArePredsOf}
use Rattle.dimacs_arrays.proofs.{CertifyPathsLemmas.{one_block}, OrderLemmas.{predecessors_by}}
use Rattle.dimacs_arrays.proofs.TightPredecessorLemmas.{tight_certified}
use Rattle.dimacs_arrays.proofs.distances.certify_paths_by_node.Goals as goal

pub predecessors_of-requires : goal.predecessors_of-requires
predecessors_of-requires g c =
    let labels = c.in_ok-labels.labels in
    let b = c.index-blocks-0.result in
    let alone : labels.blocks ≡ b ∷ [] = one_block labels.blocks b c.in_ok-labels.ensures.1.alone (rw c.blocks-2.ensures.blocks at c.index-blocks-0.is) in
    rw (c.nodes-nodes.ensures, c.network-2.ensures.nodes, ← c.in_ok-labels.ensures.1.passes.nodes) (All-head (IsBlock labels.nodes) b [] (rw alone at c.blocks-2.ensures.lawful.blocks))

pub returns-in-Some : goal.returns-in-Some
returns-in-Some g c =
    let tight = rw (c.in-Some.is, c.network.ensures.nodes, c.network.ensures.arcs) at c.in_ok-predecessors.ensures in
    tight_certified c.args.graph.now c.args.source c.args.distances.now c.in-Some.predecessors.items c.requires.source c.network.ensures.lawful.nodes_few c.network.ensures.lawful.joined tight

pub returns : goal.returns
returns g c =
    let value = c.args.graph.now in
    let claim = claimed_by_node c.args.distances.now in
    let are = c.in_ok-labels.ensures in
    let labels = c.in_ok-labels.labels in
    let b = c.index-blocks-0.result in
    let preds = c.in_ok-predecessors_of.field-0.items in
    let alone : labels.blocks ≡ b ∷ [] = one_block labels.blocks b are.1.alone (rw c.blocks-2.ensures.blocks at c.index-blocks-0.is) in
    let lawful : IsBlock value.nodes b = rw (← are.1.passes.nodes) (All-head (IsBlock labels.nodes) b [] (rw alone at c.blocks-2.ensures.lawful.blocks)) in
    let named : ArePredsOf value.nodes b.labels preds = rw (c.nodes-nodes.ensures, c.network-2.ensures.nodes) at c.in_ok-predecessors_of.ensures in
    (are.0, predecessors_by value c.args.source claim labels b preds are.1 alone lawful named c.network-2.ensures.lawful.joined)
