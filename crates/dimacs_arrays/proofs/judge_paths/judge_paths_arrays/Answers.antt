use Rattle.std.proofs.Common.{List, [], ◌∷◌, ℕ, ℤ, length}
use Rattle.dimacs_lines.specs.Limits.{IsNode}
use Rattle.dimacs_network.specs.Arcs.{NetworkValue}
use Rattle.dimacs_instance.specs.Graph.{IsGraph}
use Rattle.dimacs_judging.specs.declared.verdict.Verdict.{Verdict}
use Rattle.dimacs_decide.specs.{Claims.{claimed_by_node}, Predecessors.{pred_by_node}}
use Rattle.dimacs_arrays.specs.{declared.error.Array.TheVariants.{Distances, Predecessors}, Answers.{length_of}}
use Rattle.dimacs_arrays.specs.{declared.lengths.ArrayLength.{ArrayLength}, declared.graph.GraphArrays.{GraphArrays}}
use Rattle.dimacs_arrays.specs.{GraphArrays.{graph_lengths, graph_limits, graph_spelled}, Paths.{JudgesByNode}}
use Rattle.dimacs_arrays.proofs.AnswerLemmas.{Call, all_fit, call_tells, call_tells_limit, call_tells_refusal}
use Rattle.dimacs_arrays.proofs.GraphLemmas.{graph_clear, graph_one_way}
use Rattle.dimacs_arrays.proofs.judge_paths.judge_paths_arrays.Goals as goal

abbrev claim_lengths : GraphArrays → List ℤ → List ℕ → List ArrayLength
claim_lengths a distances preds = length_of Distances (length distances) a.nodes ∷ length_of Predecessors (length preds) a.nodes ∷ []

abbrev call : GraphArrays → ℕ → List ℤ → List ℕ → Call Verdict NetworkValue
call a s distances preds = record { lengths = graph_lengths a; claim_lengths = claim_lengths a distances preds; limits = graph_limits a s; spelled = graph_spelled a; lawful = λ g. IsGraph g × IsNode a.nodes s; answers = λ g. JudgesByNode g s (claimed_by_node distances) (pred_by_node preds) }

pub returns-in_err-graph : goal.returns-in_err-graph
returns-in_err-graph c =
    let rest = rw (c.of.ensures, c.of-2.ensures) at c.in_ok-lengths_hold-2.ensures in
    call_tells_limit (call c.args.arrays.now c.args.source c.args.distances.now c.args.predecessors.now) c.in_ok-lengths_hold.ensures rest (graph_one_way c.args.arrays.now c.args.source) (graph_clear c.args.arrays.now c.args.source) _ c.in_err-graph.ensures.spells _ c.from_residual-in_err-graph.ensures.1

pub judge_paths_by_node-requires-clause-source : goal.judge_paths_by_node-requires-clause-source
judge_paths_by_node-requires-clause-source c = rw c.in_ok-graph.ensures.spells c.in_ok-graph.ensures.source

pub judge_paths_by_node-requires-clause-distances : goal.judge_paths_by_node-requires-clause-distances
judge_paths_by_node-requires-clause-distances c =
    let rest = rw (c.of.ensures, c.of-2.ensures) at c.in_ok-lengths_hold-2.ensures in
    rw c.in_ok-graph.ensures.spells (all_fit (claim_lengths c.args.arrays.now c.args.distances.now c.args.predecessors.now) rest).0

pub judge_paths_by_node-requires-clause-predecessors : goal.judge_paths_by_node-requires-clause-predecessors
judge_paths_by_node-requires-clause-predecessors c =
    let rest = rw (c.of.ensures, c.of-2.ensures) at c.in_ok-lengths_hold-2.ensures in
    rw c.in_ok-graph.ensures.spells (all_fit (claim_lengths c.args.arrays.now c.args.distances.now c.args.predecessors.now) rest).1.0

pub returns-in_err-judge_paths_by_node : goal.returns-in_err-judge_paths_by_node
returns-in_err-judge_paths_by_node c =
    let rest = rw (c.of.ensures, c.of-2.ensures) at c.in_ok-lengths_hold-2.ensures in
    call_tells_refusal (call c.args.arrays.now c.args.source c.args.distances.now c.args.predecessors.now) c.in_ok-lengths_hold.ensures rest c.in_ok-graph.graph c.in_ok-graph.ensures.spells (c.in_ok-graph.ensures.lawful, c.in_ok-graph.ensures.source) _ c.in_err-judge_paths_by_node.ensures _ c.from_residual-in_err-judge_paths_by_node.ensures.1

pub returns : goal.returns
returns c =
    let rest = rw (c.of.ensures, c.of-2.ensures) at c.in_ok-lengths_hold-2.ensures in
    call_tells (call c.args.arrays.now c.args.source c.args.distances.now c.args.predecessors.now) c.in_ok-lengths_hold.ensures rest c.in_ok-graph.graph c.in_ok-graph.ensures.spells (c.in_ok-graph.ensures.lawful, c.in_ok-graph.ensures.source) _ c.in_ok-judge_paths_by_node.ensures
