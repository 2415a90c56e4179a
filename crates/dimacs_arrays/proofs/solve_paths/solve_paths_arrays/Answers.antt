use Rattle.std.proofs.Common.{[], ℕ, refl}
use Rattle.dimacs_lines.specs.Limits.{IsNode}
use Rattle.dimacs_network.specs.Arcs.{NetworkValue}
use Rattle.dimacs_instance.specs.Graph.{IsGraph}
use Rattle.dimacs_arrays.specs.{declared.graph.GraphArrays.{GraphArrays}, Paths.{SolvesByNode}}
use Rattle.dimacs_arrays.specs.declared.solve_paths.PathsSolved.{PathsSolved}
use Rattle.dimacs_arrays.specs.GraphArrays.{graph_lengths, graph_limits, graph_spelled}
use Rattle.dimacs_arrays.proofs.AnswerLemmas.{Call, call_tells, call_tells_limit, call_tells_refusal}
use Rattle.dimacs_arrays.proofs.GraphLemmas.{graph_clear, graph_one_way}
use Rattle.dimacs_arrays.proofs.solve_paths.solve_paths_arrays.Goals as goal

abbrev call : GraphArrays → ℕ → Call PathsSolved NetworkValue
call a s = record { lengths = graph_lengths a; claim_lengths = []; limits = graph_limits a s; spelled = graph_spelled a; lawful = λ g. IsGraph g × IsNode a.nodes s; answers = λ g. SolvesByNode g s }

pub returns-in_err-graph : goal.returns-in_err-graph
returns-in_err-graph c =
    call_tells_limit (call c.args.arrays.now c.args.source) c.in_ok-lengths_hold.ensures refl (graph_one_way c.args.arrays.now c.args.source) (graph_clear c.args.arrays.now c.args.source) _ c.in_err-graph.ensures.spells _ c.from_residual-in_err-graph.ensures.1

pub solve_over-requires : goal.solve_over-requires
solve_over-requires c = rw c.in_ok-graph.ensures.spells (record { source = c.in_ok-graph.ensures.source })

pub returns-in_err-solve_over : goal.returns-in_err-solve_over
returns-in_err-solve_over c =
    call_tells_refusal (call c.args.arrays.now c.args.source) c.in_ok-lengths_hold.ensures refl c.in_ok-graph.graph c.in_ok-graph.ensures.spells (c.in_ok-graph.ensures.lawful, c.in_ok-graph.ensures.source) _ c.in_err-solve_over.ensures _ c.from_residual-in_err-solve_over.ensures.1

pub returns : goal.returns
returns c =
    call_tells (call c.args.arrays.now c.args.source) c.in_ok-lengths_hold.ensures refl c.in_ok-graph.graph c.in_ok-graph.ensures.spells (c.in_ok-graph.ensures.lawful, c.in_ok-graph.ensures.source) c.in_ok-solve_over.field-0 c.in_ok-solve_over.ensures
