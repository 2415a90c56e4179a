use Rattle.std.proofs.Common.{ℕ, ◌≡◌, ◌⊎◌, [], true, false, length}
use Rattle.dimacs_network.specs.Tables.{value_of}
use Rattle.dimacs_decide.specs.Predecessors.{pred_by_node}
use Rattle.dimacs_decide.specs.inside.LabelTrees.{ComesFirst, IsLabelTree, IsPathBack, Keeps}
use Rattle.dimacs_decide.proofs.label_tree.LabelTree.label_from.Given as goal

-- the rest of the path ends before a labelled node
abbrev pub invariant-loop-node : goal.invariant-loop-node
invariant-loop-node g l =
    let claim = g.C.DistanceClaim.claimed l.fn.self.claim.now in
    let pred = pred_by_node l.fn.self.predecessors.now in
    let labelled = value_of l.self.labelled in
    record {
      same_claim : l.self.claim.now ≡ l.fn.self.claim.now;
      same_pred : l.self.predecessors.now ≡ l.fn.self.predecessors.now;
      tree : IsLabelTree l.nodes l.fn.self.block.source claim pred l.self.block labelled;
      keeps : Keeps (value_of l.fn.self.labelled) labelled;
      path : (end : ℕ) × IsPathBack claim pred l.from l.self.path.items end × (labelled end ≡ true);
      once : ComesFirst l.from l.self.path.items;
      not_labelled : (l.self.path.items ≡ []) ⊎ (labelled l.from ≡ false);
    }

abbrev pub decreases-loop-node : goal.decreases-loop-node
decreases-loop-node g l = length l.self.path.items
