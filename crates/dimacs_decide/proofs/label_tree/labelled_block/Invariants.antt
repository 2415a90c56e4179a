use Rattle.std.proofs.Common.{◌≡◌}
use Rattle.dimacs_network.specs.Tables.{value_of}
use Rattle.dimacs_decide.specs.{Predecessors.{pred_by_node}, inside.LabelTrees.{AreLabelledBelow, IsLabelTree}}
use Rattle.dimacs_decide.proofs.label_tree.labelled_block.Given as goal

-- the nodes before v are labelled if they have a distance
abbrev pub invariant-loop-v : goal.invariant-loop-v
invariant-loop-v g l =
    let claim = g.C.DistanceClaim.claimed l.claim in
    record {
      same_claim : l.tree.claim.now ≡ l.claim;
      same_pred : l.tree.predecessors.now ≡ l.predecessors;
      tree : IsLabelTree l.nodes l.source claim (pred_by_node l.predecessors) l.tree.block (value_of l.tree.labelled);
      labelled : AreLabelledBelow claim (value_of l.tree.labelled) l.v;
    }
