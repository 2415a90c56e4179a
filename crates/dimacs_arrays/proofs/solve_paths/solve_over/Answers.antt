use Rattle.std.proofs.{Common.{◌≡◌, ◌∷◌, [], ℕ, length, ap}, lemmas.List.Elements.{All-head}}
use Rattle.dimacs_claims.specs.Labels.{IsBlock, LabelsValue}
use Rattle.dimacs_instance.specs.QueryTexts.{Sources}
use Rattle.dimacs_network.specs.Arcs.{NetworkValue}
use Rattle.dimacs_solve.specs.Paths.{AreProduced}
use Rattle.dimacs_arrays.specs.{inside.PredecessorsOf.{ArePredsOf}, inside.LabelDistances.{AreDistancesOf}}
use Rattle.dimacs_arrays.proofs.{CertifyPathsLemmas.{one_block}, SolveLemmas.{found_by, one_source}}
use Rattle.dimacs_arrays.proofs.solve_paths.solve_over.Goals as goal

one_alone : (g : NetworkValue) (s : ℕ) (labels : LabelsValue) → AreProduced g (Sources (s ∷ [])) labels → length labels.blocks ≡ 1
one_alone g s labels produced = let (b, one, is) = one_source labels.blocks s produced.sources in ap length one

pub predecessors_of-requires : goal.predecessors_of-requires
predecessors_of-requires g c =
    let produced = (rw c.in_ok-all_from.ensures at c.in-Ok.ensures).2 in
    let labels = c.in-Ok.labels in
    let b = c.index-blocks-0.result in
    let alone : labels.blocks ≡ b ∷ [] = one_block labels.blocks b (one_alone c.args.graph.now c.args.source labels produced) (rw c.blocks-2.ensures.blocks at c.index-blocks-0.is) in
    rw (c.nodes-nodes.ensures, c.network.ensures.nodes, ← produced.shows.passes.nodes) (All-head (IsBlock labels.nodes) b [] (rw alone at c.blocks-2.ensures.lawful.blocks))

pub returns : goal.returns
returns g c =
    let value = c.args.graph.now in
    let outcome = rw c.in_ok-all_from.ensures at c.in-Ok.ensures in
    let produced = outcome.2 in
    let labels = c.in-Ok.labels in
    let b = c.index-blocks-0.result in
    let alone : labels.blocks ≡ b ∷ [] = one_block labels.blocks b (one_alone value c.args.source labels produced) (rw c.blocks-2.ensures.blocks at c.index-blocks-0.is) in
    let lawful : IsBlock value.nodes b = rw (← produced.shows.passes.nodes) (All-head (IsBlock labels.nodes) b [] (rw alone at c.blocks-2.ensures.lawful.blocks)) in
    let are : AreDistancesOf value.nodes b c.in-Some.distances.items = rw (c.in-Some.is, c.nodes-nodes.ensures, c.network.ensures.nodes) at c.in_ok-distances.ensures.distances in
    let named : ArePredsOf value.nodes b.labels c.in_ok-predecessors.predecessors.items = rw (c.nodes-nodes.ensures, c.network.ensures.nodes) at c.in_ok-predecessors.ensures in
    (outcome.1, found_by value c.args.source labels b produced alone c.in-Some.distances.items c.in_ok-predecessors.predecessors.items lawful c.network.ensures.lawful.joined are named)
