use Rattle.std.proofs.Common.{subst}
use Rattle.dimacs_instance.specs.Graph.{IsGraph}
use Rattle.dimacs_arrays.specs.{GraphArrays.{graph_lengths, graph_spelled}, Spelled.{arc_limits, IsSpelled}}
use Rattle.dimacs_arrays.proofs.{AnswerLemmas.{tells_limit}, SpelledLemmas.{arcs_clear, arcs_one_way}}
use Rattle.dimacs_arrays.proofs.over.graph_over.Goals as goal

pub returns-in_err-graph : goal.returns-in_err-graph
returns-in_err-graph c =
    let a = c.args.arrays.now in
    tells_limit (graph_lengths a) (arc_limits a) (IsGraph (graph_spelled a)) (IsSpelled (graph_spelled a)) c.in_ok-lengths_hold.ensures (graph_spelled a) _ (arcs_one_way a) (arcs_clear a) c.in_err-graph.ensures.spells _ c.from_residual-in_err-graph.ensures.1

pub returns : goal.returns
returns c = (c.in_ok-lengths_hold.ensures, subst IsGraph c.in_ok-graph.ensures.spells c.in_ok-graph.ensures.lawful, c.in_ok-graph.ensures.spells)
