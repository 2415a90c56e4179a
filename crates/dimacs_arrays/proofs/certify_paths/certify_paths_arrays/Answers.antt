use Rattle.std.proofs.Common.{List, [], ◌∷◌, ℕ, ℤ, length}
use Rattle.std.specs.Global.{Vec}
use Rattle.dimacs_lines.specs.Limits.{IsNode}
use Rattle.dimacs_network.specs.Arcs.{NetworkValue}
use Rattle.dimacs_instance.specs.Graph.{IsGraph}
use Rattle.dimacs_decide.specs.Claims.{claimed_by_node}
use Rattle.dimacs_arrays.specs.{declared.error.Array.TheVariants.{Distances}, declared.graph.GraphArrays.{GraphArrays}}
use Rattle.dimacs_arrays.specs.{declared.lengths.ArrayLength.{ArrayLength}, Answers.{length_of}}
use Rattle.dimacs_arrays.specs.{GraphArrays.{graph_lengths, graph_limits, graph_spelled}, Paths.{CertifiesByNode}}
use Rattle.dimacs_arrays.proofs.AnswerLemmas.{Call, call_tells, call_tells_limit, call_tells_refusal}
use Rattle.dimacs_arrays.proofs.GraphLemmas.{graph_clear, graph_one_way}
use Rattle.dimacs_arrays.proofs.certify_paths.certify_paths_arrays.Goals as goal

abbrev claim_lengths : GraphArrays → List ℤ → List ArrayLength
claim_lengths a distances = length_of Distances (length distances) a.nodes ∷ []

abbrev call : GraphArrays → ℕ → List ℤ → Call (Vec ℕ) NetworkValue
call a s distances = record { lengths = graph_lengths a; claim_lengths = claim_lengths a distances; limits = graph_limits a s; spelled = graph_spelled a; lawful = λ g. IsGraph g × IsNode a.nodes s; answers = λ g. CertifiesByNode g s (claimed_by_node distances) }

pub returns-in_err-graph : goal.returns-in_err-graph
returns-in_err-graph c =
    let rest = rw c.of.ensures at c.in_ok-lengths_hold-2.ensures in
    call_tells_limit (call c.args.arrays.now c.args.source c.args.distances.now) c.in_ok-lengths_hold.ensures rest (graph_one_way c.args.arrays.now c.args.source) (graph_clear c.args.arrays.now c.args.source) _ c.in_err-graph.ensures.spells _ c.from_residual-in_err-graph.ensures.1

pub certify_paths_by_node-requires : goal.certify_paths_by_node-requires
certify_paths_by_node-requires c = rw c.in_ok-graph.ensures.spells (record { source = c.in_ok-graph.ensures.source })

pub returns-in_err-certify_paths_by_node : goal.returns-in_err-certify_paths_by_node
returns-in_err-certify_paths_by_node c =
    let rest = rw c.of.ensures at c.in_ok-lengths_hold-2.ensures in
    call_tells_refusal (call c.args.arrays.now c.args.source c.args.distances.now) c.in_ok-lengths_hold.ensures rest c.in_ok-graph.graph c.in_ok-graph.ensures.spells (c.in_ok-graph.ensures.lawful, c.in_ok-graph.ensures.source) _ c.in_err-certify_paths_by_node.ensures _ c.from_residual-in_err-certify_paths_by_node.ensures.1

pub returns : goal.returns
returns c =
    let rest = rw c.of.ensures at c.in_ok-lengths_hold-2.ensures in
    call_tells (call c.args.arrays.now c.args.source c.args.distances.now) c.in_ok-lengths_hold.ensures rest c.in_ok-graph.graph c.in_ok-graph.ensures.spells (c.in_ok-graph.ensures.lawful, c.in_ok-graph.ensures.source) c.in_ok-certify_paths_by_node.field-0 c.in_ok-certify_paths_by_node.ensures
