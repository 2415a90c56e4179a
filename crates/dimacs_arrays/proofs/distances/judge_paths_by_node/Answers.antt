use Rattle.std.proofs.Common.{inl}
use Rattle.dimacs_decide.specs.{Claims.{claimed_by_node}, Predecessors.{pred_by_node}}
use Rattle.dimacs_arrays.proofs.{LabelLemmas.{unlabelled}, TightPredecessorLemmas.{tight_judged}}
use Rattle.dimacs_arrays.proofs.distances.judge_paths_by_node.Goals as goal

pub returns-in_err-labels : goal.returns-in_err-labels
returns-in_err-labels g c =
    let refutes = rw c.requires.distances at c.in_err-labels.ensures.labels in
    unlabelled c.args.graph.now c.args.source (claimed_by_node c.args.distances.now) (pred_by_node c.args.predecessors.now) c.in_err-labels.field-0.0 refutes _ c.from_residual-in_err-labels.ensures.1

pub returns-then-branch : goal.returns-then-branch
returns-then-branch g c =
    let tight = rw (c.network.ensures.nodes, c.network.ensures.arcs) at (c.in_ok-are_tight_predecessors.ensures c.if-branch.true) in
    tight_judged c.args.graph.now c.args.source c.args.distances.now c.args.predecessors.now c.requires.source c.network.ensures.lawful.nodes_few c.network.ensures.lawful.joined tight

pub returns : goal.returns
returns g c =
    let by = rw c.requires.distances at c.in_ok-labels.ensures.labels in
    let judges = rw c.in_ok-all_from.ensures at c.judge_paths.ensures in
    inl (c.in_ok-labels.labels, by, c.in_ok-labels.ensures.order, judges)
