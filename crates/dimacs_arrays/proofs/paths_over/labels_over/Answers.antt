use Rattle.std.proofs.Common.{[], ◌∷◌, length, rules}
use Rattle.dimacs_judging.specs.Tests.{Settles}
use Rattle.dimacs_decide.specs.{Claims.{claimed_by_node}, Predecessors.{pred_by_node}}
use Rattle.dimacs_arrays.specs.{declared.error.Array.TheVariants.{Predecessors}, Answers.{length_of}}
use Rattle.dimacs_arrays.specs.{Paths.{label_rows}, PathsSpelled.{AreOrderedLabels, HasSource, source_limits}}
use Rattle.dimacs_arrays.proofs.{AnswerLemmas.{tells_refusal}, PathsOverLemmas.{none_ordered}}
use Rattle.dimacs_arrays.proofs.paths_over.labels_over.Goals as goal

pub returns-in_err-labels_by_node : goal.returns-in_err-labels_by_node
returns-in_err-labels_by_node c =
    let nodes = length c.args.distances.now in
    let s = c.args.source in
    let claim = claimed_by_node c.args.distances.now in
    let pred = pred_by_node c.args.predecessors.now in
    let rows = label_rows nodes s claim pred in
    tells_refusal (length_of Predecessors (length c.args.predecessors.now) nodes ∷ []) (source_limits nodes s) (HasSource nodes s) (Settles (AreOrderedLabels nodes s claim pred) rows)
    (rw c.of.ensures at c.in_ok-lengths_hold.ensures) (search rules) _ (none_ordered nodes s claim pred rows _ c.in_err-labels_by_node.ensures.labels) _ c.from_residual-in_err-labels_by_node.ensures.1
