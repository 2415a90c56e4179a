use Rattle.std.proofs.{Common.{rules, ◌≡◌, ◌∙◌, false, refl, sym, subst, Some}, lemmas.Int.{to_z-of_z}}
use Rattle.std.specs.Int.{w128}
use Rattle.dimacs_lines.specs.Limits.{IsNode}
use Rattle.dimacs_claims.specs.Labels.{IsBlock, IsLabel, IsWithinRadius, with_label}
use Rattle.dimacs_network.specs.Tables.{value_of}
use Rattle.dimacs_decide.specs.Predecessors.{pred_by_node}
use Rattle.dimacs_decide.proofs.{LabelTreeLemmas.{grown}, MarkedLemmas.{few, label_if_marked}}
use Rattle.dimacs_decide.proofs.label_tree.LabelTree.add_label.Goals as goal

pub returns-clause-tree : goal.returns-clause-tree
returns-clause-tree g c =
    let nodes = c.args._nodes in
    let claim = g.C.DistanceClaim.claimed c.args.self.now.claim.now in
    let pred = pred_by_node c.args.self.now.predecessors.now in
    let labelled = value_of c.args.self.now.labelled in
    let b = c.args.self.now.block in
    let u = c.args.node in
    let d = c.in-Some.dist in
    let new : labelled u ≡ false = sym c.get.ensures.value ∙ c.if-get.false in
    let node : IsNode nodes u = c.requires.proposed.within u c.requires.distance in
    let named : claim u ≡ Some d = sym c.of.ensures.claimed ∙ c.in-Some.is in
    let exact = to_z-of_z w128 d (search rules) in
    let adds = rw (c.in_ok-add.ensures.added, exact, c.predecessor_of-pred.ensures) at c.in_ok-add.ensures.labels in
    let keeps = rw (c.in_ok-add.ensures.added, exact, c.predecessor_of-pred.ensures) at c.in_ok-add.ensures.lawful in
    let near : IsWithinRadius b.radius d = subst (λ radius. IsWithinRadius radius d) (sym c.requires.tree.block.whole) tt in
    let label : IsLabel nodes (record { dist = d; id = u; pred = pred u }) = record { id = node; dist = c.in-Some.ensures.wide; pred = c.requires.tree.inside (pred u) c.requires.labelled } in
    let lawful : IsBlock nodes (with_label b (record { dist = d; id = u; pred = pred u })) =
    keeps nodes c.requires.tree.block.lawful label (few nodes claim b labelled c.requires.tree.block u new c.requires.proposed.small node) (label_if_marked nodes claim b labelled c.requires.tree.block (pred u) c.requires.labelled) near in
    let set = c.in_ok-set.ensures in
    rw (c.in_ok-add.ensures.added, exact, c.predecessor_of-pred.ensures) (grown nodes _ claim pred b labelled u c.requires.tree new d (value_of c.set.new.self) node c.requires.labelled (c.requires.next (record { dist = d; id = u; pred = pred u }) refl) named lawful adds set.set set.others)
