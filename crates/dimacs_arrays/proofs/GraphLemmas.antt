-- The arrays of a graph.
use Rattle.std.proofs.{Common.{ℕ, ◌≤◌, ◌++◌, List, [], ◌∷◌, All, length, refl, arith}, lemmas.Int.{ints}}
use Rattle.std.proofs.lemmas.List.Elements.{All-weaker}
use Rattle.dimacs_lines.specs.Limits.{most_count, most_nodes}
use Rattle.dimacs_records.specs.declared.reasons.Reason.TheVariants.{NodeRange}
use Rattle.dimacs_network.specs.{Arcs.{JoinsNodes}, declared.network.ArcView.{ArcView}}
use Rattle.dimacs_instance.specs.Graph.{HasWeightAlone, IsGraph}
use Rattle.dimacs_judging.specs.{declared.verdict.Where.TheVariants.{Node}, Tests.{AllClear, Row}}
use Rattle.dimacs_judging.proofs.Firsts.{AllOneWay, one_test_one_way}
use Rattle.dimacs_arrays.specs.{declared.graph.GraphArrays.{GraphArrays}, Limits.{count_rows, limit_row}}
use Rattle.dimacs_arrays.specs.GraphArrays.{IsGraphFrom, graph_limits, graph_spelled, source_rows, weighted_arc}
use Rattle.dimacs_arrays.specs.inside.Lent.{IsInRange}
use Rattle.dimacs_arrays.proofs.LentLemmas.{lent_all, lent_many}
use Rattle.dimacs_arrays.proofs.LimitLemmas.{HasLawfulBounds, all_limits_clear, limits_one_way, one_clear}

module _ (a : GraphArrays) where
  abbrev count : ℕ
  count = length a.tails.now

  pub graph_one_way : (s : ℕ) → AllOneWay (graph_limits a s)
  graph_one_way s = limits_one_way a.nodes count (source_rows a.nodes s) (graph_spelled a).arcs (one_test_one_way (Node s) NodeRange _, tt)

  lawful_bounds : (b : ArcView) → HasWeightAlone b → HasLawfulBounds b
  lawful_bounds b alone = (omega (arith, ints, alone.0), omega (arith, ints, alone.0, alone.1))

  pub weights_clear : (rows : List Row) → AllClear rows → IsGraph (graph_spelled a) → AllClear (count_rows a.nodes count ++ (rows ++ limit_row a.nodes (graph_spelled a).arcs ∷ []))
  weights_clear rows clear graph =
      all_limits_clear a.nodes count rows (graph_spelled a).arcs graph.nodes_few (omega (arith, graph.arcs_few, lent_many (weighted_arc a) count))
      clear graph.joined (All-weaker HasWeightAlone HasLawfulBounds lawful_bounds (graph_spelled a).arcs graph.weights)

  pub graph_clear : (s : ℕ) → IsGraphFrom a s → AllClear (graph_limits a s)
  graph_clear s law = weights_clear (source_rows a.nodes s) (one_clear (Node s) NodeRange _ (λ off. off law.1), tt) law.0

  pub graph_lawful : a.nodes ≤ most_nodes → count ≤ most_count → All (IsInRange a.nodes) (graph_spelled a).arcs → IsGraph (graph_spelled a)
  graph_lawful nodes_few arcs_few in_range = record {
    nodes_few = nodes_few;
    arcs_few = omega (arith, arcs_few, lent_many (weighted_arc a) count);
    joined = All-weaker (IsInRange a.nodes) (JoinsNodes a.nodes) (λ b in_it. in_it.0) (graph_spelled a).arcs in_range;
    weights = lent_all (weighted_arc a) count (IsInRange a.nodes) HasWeightAlone (λ k in_it. (refl, refl, in_it.1.3)) in_range;
  }
