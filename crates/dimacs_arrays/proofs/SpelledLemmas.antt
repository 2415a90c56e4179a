-- The instances that arrays spell, and graphs without a source.
use Rattle.std.proofs.Common.{[], length}
use Rattle.dimacs_instance.specs.Graph.{IsGraph}
use Rattle.dimacs_judging.specs.Tests.{AllClear}
use Rattle.dimacs_judging.proofs.Firsts.{AllOneWay}
use Rattle.dimacs_arrays.specs.{declared.graph.GraphArrays.{GraphArrays}, GraphArrays.{graph_spelled}}
use Rattle.dimacs_arrays.specs.Spelled.{arc_limits}
use Rattle.dimacs_arrays.proofs.{GraphLemmas.{weights_clear}, LimitLemmas.{limits_one_way}}

pub arcs_one_way : (a : GraphArrays) → AllOneWay (arc_limits a)
arcs_one_way a = limits_one_way a.nodes (length a.tails.now) [] (graph_spelled a).arcs tt

pub arcs_clear : (a : GraphArrays) → IsGraph (graph_spelled a) → AllClear (arc_limits a)
arcs_clear a law = weights_clear a [] tt law
