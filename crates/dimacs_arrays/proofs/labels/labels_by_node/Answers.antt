use Rattle.std.proofs.Common.{length}
use Rattle.dimacs_decide.specs.{Claims.{claimed_by_node}, Predecessors.{pred_by_node}}
use Rattle.dimacs_arrays.proofs.DistanceLemmas.{distance_within, no_pred_without}
use Rattle.dimacs_arrays.proofs.LabelLemmas.{in_order, no_pred, no_source, refused, refused_by, spelled_by}
use Rattle.dimacs_arrays.proofs.labels.labels_by_node.Goals as goal

pub returns-in_err-source_holds-clause-labels : goal.returns-in_err-source_holds-clause-labels
returns-in_err-source_holds-clause-labels c =
    let claim = claimed_by_node c.args.distances.now in
    let pred = pred_by_node c.args.predecessors.now in
    let nodes = length c.args.distances.now in
    refused nodes c.args.source claim pred _ _ (no_source nodes c.args.source claim pred _ _ c.requires.source c.in_err-source_holds.ensures) _ c.from_residual.ensures.1

pub returns-in_err-predecessors_hold-clause-labels : goal.returns-in_err-predecessors_hold-clause-labels
returns-in_err-predecessors_hold-clause-labels c =
    let claim = claimed_by_node c.args.distances.now in
    let pred = pred_by_node c.args.predecessors.now in
    let nodes = length c.args.distances.now in
    refused nodes c.args.source claim pred _ _ (no_pred nodes c.args.source claim pred _ _ c.in_ok-source_holds.ensures c.in_err-predecessors_hold.ensures) _ c.from_residual-in_err-predecessors_hold.ensures.1

pub labelled_block-requires-clause-within : goal.labelled_block-requires-clause-within
labelled_block-requires-clause-within c = λ v some. rw c.requires.distances at (distance_within c.args.distances.now v some)

pub labelled_block-requires-clause-preds : goal.labelled_block-requires-clause-preds
labelled_block-requires-clause-preds c =
    no_pred_without c.args.predecessors.now (length c.args.distances.now) c.args.source (claimed_by_node c.args.distances.now) c.requires.predecessors c.in_ok-predecessors_hold.ensures

pub returns-in_err-block-clause-labels : goal.returns-in_err-block-clause-labels
returns-in_err-block-clause-labels c =
    let first = rw (← c.requires.distances) at c.in_err-block.ensures.first in
    refused_by (length c.args.distances.now) c.args.source (claimed_by_node c.args.distances.now) (pred_by_node c.args.predecessors.now) c.in_ok-source_holds.ensures c.in_ok-predecessors_hold.ensures
    c.in_err-block.field-0.0 first _ c.from_residual-in_err-block.ensures.1

pub returns-clause-order : goal.returns-clause-order
returns-clause-order c =
    let made = rw (c.new-labels.ensures.empty, ← c.requires.distances) at c.in_ok-push.ensures.pushed in
    rw made (in_order (length c.args.distances.now) c.args.source (claimed_by_node c.args.distances.now) (pred_by_node c.args.predecessors.now) c.in_ok-block.block c.in_ok-block.ensures.order)

pub returns-clause-labels : goal.returns-clause-labels
returns-clause-labels c =
    let made = rw (c.new-labels.ensures.empty, ← c.requires.distances) at c.in_ok-push.ensures.pushed in
    let lawful = rw (← c.requires.distances) at c.in_ok-block.ensures.lawful in
    rw made (spelled_by (length c.args.distances.now) c.args.source (claimed_by_node c.args.distances.now) (pred_by_node c.args.predecessors.now) c.in_ok-block.block c.in_ok-predecessors_hold.ensures lawful c.in_ok-block.ensures.source c.in_ok-block.ensures.whole c.in_ok-block.ensures.agrees c.in_ok-block.ensures.preds)
