use Rattle.std.proofs.Common.{◌∙◌, refl, subst, rules}
use Rattle.dimacs_claims.specs.Labels.{BlockValue, label}
use Rattle.dimacs_judging.specs.Tests.{Clear}
use Rattle.dimacs_network.specs.Tables.{value_of}
use Rattle.dimacs_decide.specs.{Distances.{claim_row}, inside.TightTrees.{IsTightTree}}
use Rattle.dimacs_decide.proofs.LightestLemmas.{lightest_clear, lightest_joined, lightest_tree}
use Rattle.dimacs_decide.proofs.ClaimLemmas.{certified}
use Rattle.dimacs_decide.proofs.few_labels.few_tree.Goals as goal

pub tight_tree-requires-clause-joined : goal.tight_tree-requires-clause-joined
tight_tree-requires-clause-joined g c = rw c.requires.nodes (lightest_joined c.args._graph.now.arcs (g.M.Network.list c.args.network.now) (label c.args.claimed.now) c.requires.lightest c.args._graph.now.nodes c.requires.graph.joined)

pub returns : goal.returns
returns g c =
    let value = c.args._graph.now in
    let b = c.args.claimed.now in
    let least = g.M.Network.list c.args.network.now in
    let tree = c.in_ok-tree.tree in
    let arcs : Clear (claim_row least (label b)) = subst (λ (d : BlockValue). Clear (claim_row least (label d))) c.requires.claimed (c.if-not-leaving_arcs_hold.ensures refl) in
    let is : IsTightTree value.nodes least (label b) tree.block (value_of tree.reached) = subst (λ (d : BlockValue). IsTightTree value.nodes least (label d) tree.block (value_of tree.reached)) c.requires.claimed (rw c.requires.nodes at c.in_ok-tree.ensures.tree.tree) in
    let shown = certified value b.source (label b) tree.block (value_of tree.reached) c.requires.graph.joined (c.in_ok-tree.ensures.source ∙ c.source-source.ensures) (lightest_tree value.arcs least (label b) c.requires.lightest value.nodes tree.block (value_of tree.reached) is)
    (c.if-not-reaches_all.ensures refl value.nodes) (lightest_clear value.arcs least (label b) c.requires.lightest arcs) in
    record { distances = shown.0; block = shown.1; marked = search rules }
