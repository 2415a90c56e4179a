use Rattle.std.proofs.Common.{◌≡◌, ◌∙◌, ◌∷◌, [], true, false, length, arith, ap, sym, subst}
use Rattle.std.proofs.lemmas.List.{length-append}
use Rattle.dimacs_network.specs.Tables.{value_of}
use Rattle.dimacs_decide.specs.{Predecessors.{LeadsBack, pred_by_node}, inside.LabelTrees.{IsLabelTree}}
use Rattle.dimacs_decide.proofs.LabelTreeLemmas.{next_label, placed_keeps, source_labelled}
use Rattle.dimacs_decide.proofs.PathBackLemmas.{comes_first, never_back, none_within, outcome, path_leads, root_apart, root_not_labelled, root_some, start_off, still_not_labelled, taken}
use Rattle.dimacs_decide.proofs.label_tree.LabelTree.label_from.Goals as goal

pub returns-then-not-get-clause-labelled : goal.returns-then-not-get-clause-labelled
returns-then-not-get-clause-labelled g c =
    let old = c.args.self.now in
    let claim = g.C.DistanceClaim.claimed old.claim.now in
    let pred = pred_by_node old.predecessors.now in
    let labelled = value_of old.labelled in
    let b = old.block in
    let source = source_labelled c.args.nodes b.source claim pred b labelled c.requires.tree in
    let not_labelled : labelled c.in_ok-end.end ≡ false = rw c.climb.ensures.labelled at (sym c.if-not-get.ensures.value) in
    let off = never_back claim pred c.args.nodes b.source labelled c.args.from c.climb.new.self.path.items c.in_ok-end.end c.in_ok-end.ensures.path c.in_ok-end.ensures.off source.0 source.1
    c.requires.proposed.within (none_within c.args.nodes claim pred c.requires.proposed.within c.requires.proposed.preds) not_labelled c.in_ok-end.ensures.ends in
    let distance : claim c.args.from ≡ c.of.result = sym (rw c.climb.ensures.claim at c.of.ensures.claimed) in
    rw c.climb.ensures.labelled (outcome claim pred b.source labelled c.args.from off c.of.result distance c.is_none.result c.is_none.ensures)

pub returns-then-not-get-clause-tree : goal.returns-then-not-get-clause-tree
returns-then-not-get-clause-tree g c = rw (c.climb.ensures.labelled, c.climb.ensures.block) c.requires.tree

pub returns-then-not-get-clause-keeps : goal.returns-then-not-get-clause-keeps
returns-then-not-get-clause-keeps g c = rw c.climb.ensures.labelled (λ v h. h)

pub loop-node-init : goal.loop-node-init
loop-node-init g c =
    let old = c.args.self.now in
    let claim = g.C.DistanceClaim.claimed old.claim.now in
    let pred = pred_by_node old.predecessors.now in
    let labelled = value_of old.labelled in
    let path = c.climb.new.self.path.items in
    let end = c.in_ok-end.end in
    let same = c.climb.ensures.labelled in
    let on : labelled end ≡ true = rw same at (sym c.if-not-get.ensures.value) in
    record {
      same_claim = c.climb.ensures.claim;
      same_pred = c.climb.ensures.predecessors;
      tree = rw (same, c.climb.ensures.block) c.requires.tree;
      keeps = rw same (λ v h. h);
      path = (end, c.in_ok-end.ensures.path, rw same on);
      once = comes_first claim pred labelled c.args.from path end c.in_ok-end.ensures.path c.in_ok-end.ensures.off on;
      not_labelled = rw same (start_off claim pred labelled c.args.from path end c.in_ok-end.ensures.path c.in_ok-end.ensures.off);
    }

pub add_label-requires : goal.add_label-requires
add_label-requires g c =
    let first = c.args.self.now in
    let claim = g.C.DistanceClaim.claimed first.claim.now in
    let pred = pred_by_node first.predecessors.now in
    let labelled = value_of c.loop-node.self.labelled in
    let b = c.loop-node.self.block in
    let so_far = c.loop-node.invariant in
    let old = c.loop-node.self.path.items in
    let front = c.pop.new.self.items in
    let node = c.in-Some.node in
    let goes = taken claim pred labelled c.args.from old front node c.in-Some.ensures.items so_far.path so_far.once so_far.not_labelled in
    let some = root_some claim pred labelled c.args.from old front node c.in-Some.ensures.items so_far.path so_far.once so_far.not_labelled in
    let not_labelled = root_not_labelled claim pred labelled c.args.from old front node c.in-Some.ensures.items so_far.path so_far.once so_far.not_labelled in
    rw (so_far.same_claim, so_far.same_pred) (record {
      proposed = c.requires.proposed;
      tree = subst (λ s. IsLabelTree c.args.nodes s claim pred b labelled) (sym so_far.tree.source) so_far.tree;
      distance = goes.1;
      next = λ l same. rw so_far.tree.source (next_label c.args.nodes first.block.source claim pred b labelled so_far.tree c.args.from l (λ v less has. so_far.keeps v (c.requires.earlier v less has)) some not_labelled
          (subst (λ u. LeadsBack pred u c.args.from) (sym same) (path_leads claim pred c.args.from front node goes.0)));
      labelled = goes.2;
    })

pub loop-node-smaller : goal.loop-node-smaller
loop-node-smaller g c =
    rw c.add_label.ensures.path (omega (arith, ap length c.in-Some.ensures.items, length-append c.pop.new.self.items (c.in-Some.node ∷ [])))

pub loop-node-preserved : goal.loop-node-preserved
loop-node-preserved g c =
    let claim = g.C.DistanceClaim.claimed c.args.self.now.claim.now in
    let pred = pred_by_node c.args.self.now.predecessors.now in
    let labelled = value_of c.loop-node.self.labelled in
    let after = value_of c.add_label.new.self.labelled in
    let so_far = c.loop-node.invariant in
    let node = c.in-Some.node in
    let placed = c.in_ok-add_label.ensures.placed in
    let goes = taken claim pred labelled c.args.from _ _ node c.in-Some.ensures.items so_far.path so_far.once so_far.not_labelled in
    record {
      same_claim = c.add_label.ensures.claim ∙ so_far.same_claim;
      same_pred = c.add_label.ensures.predecessors ∙ so_far.same_pred;
      tree = rw (so_far.same_claim, so_far.same_pred, so_far.tree.source) at c.in_ok-add_label.ensures.tree;
      keeps = λ v h. placed_keeps labelled after node placed v (so_far.keeps v h);
      path = rw c.add_label.ensures.path (node, goes.0, placed.0);
      once = rw c.add_label.ensures.path (root_apart claim pred labelled c.args.from _ _ node c.in-Some.ensures.items so_far.path so_far.once so_far.not_labelled).0;
      not_labelled = rw c.add_label.ensures.path (still_not_labelled claim pred labelled c.args.from _ _ node c.in-Some.ensures.items so_far.path so_far.once so_far.not_labelled after placed);
    }
