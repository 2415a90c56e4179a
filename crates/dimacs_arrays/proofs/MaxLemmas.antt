-- The arrays of a maximum flow instance.
use Rattle.std.proofs.{Common.{◌≡◌, ◌≢◌, ℕ, ◌≤◌, All, length, refl, arith}, lemmas.Int.{ints}}
use Rattle.std.proofs.lemmas.List.Elements.{All-weaker}
use Rattle.dimacs_lines.specs.Limits.{IsNode, most_count, most_nodes}
use Rattle.dimacs_records.specs.declared.reasons.Reason.TheVariants.{NodeRange, NodeTwice}
use Rattle.dimacs_network.specs.{Arcs.{JoinsNodes}, declared.network.ArcView.{ArcView}}
use Rattle.dimacs_instance.specs.MaxFlows.{IsMax, HasCapacityAlone}
use Rattle.dimacs_judging.specs.{declared.verdict.Where.TheVariants.{Node}, Tests.{AllClear}}
use Rattle.dimacs_judging.proofs.Firsts.{AllOneWay, one_test_one_way}
use Rattle.dimacs_arrays.specs.{declared.max.MaxArrays.{MaxArrays}, inside.Lent.{IsInRange}}
use Rattle.dimacs_arrays.specs.MaxArrays.{end_rows, max_arc, max_limits, max_spelled}
use Rattle.dimacs_arrays.proofs.LentLemmas.{lent_all, lent_many}
use Rattle.dimacs_arrays.proofs.LimitLemmas.{HasLawfulBounds, all_limits_clear, limits_one_way, one_clear}

ends_clear : (nodes source sink : ℕ) → IsNode nodes source → IsNode nodes sink → source ≢ sink → AllClear (end_rows nodes source sink)
ends_clear nodes source sink source_is sink_is apart = (
  one_clear (Node source) NodeRange (¬ IsNode nodes source) (λ off. off source_is),
  (one_clear (Node sink) NodeRange (¬ IsNode nodes sink) (λ off. off sink_is), (one_clear (Node sink) NodeTwice (source ≡ sink) apart, tt)),
)

module _ (a : MaxArrays) where
  abbrev count : ℕ
  count = length a.tails.now

  pub max_one_way : AllOneWay (max_limits a)
  max_one_way =
      limits_one_way a.nodes count (end_rows a.nodes a.source a.sink) (max_spelled a).arcs
      (one_test_one_way (Node a.source) NodeRange _, (one_test_one_way (Node a.sink) NodeRange _, (one_test_one_way (Node a.sink) NodeTwice _, tt)))

  lawful_bounds : (b : ArcView) → HasCapacityAlone b → HasLawfulBounds b
  lawful_bounds b alone = (omega (arith, ints, alone.0), omega (arith, ints, alone.0, alone.2))

  pub max_clear : IsMax (max_spelled a) → AllClear (max_limits a)
  max_clear law =
      all_limits_clear a.nodes count (end_rows a.nodes a.source a.sink) (max_spelled a).arcs law.nodes_few (omega (arith, law.arcs_few, lent_many (max_arc a) count))
      (ends_clear a.nodes a.source a.sink law.source_within law.sink_within law.ends_apart) law.joined
      (All-weaker HasCapacityAlone HasLawfulBounds lawful_bounds (max_spelled a).arcs law.capacities)

  pub max_lawful : a.nodes ≤ most_nodes → count ≤ most_count → IsNode a.nodes a.source → IsNode a.nodes a.sink → a.source ≢ a.sink → All (IsInRange a.nodes) (max_spelled a).arcs → IsMax (max_spelled a)
  max_lawful nodes_few arcs_few source_within sink_within ends_apart in_range = record {
    nodes_few = nodes_few;
    arcs_few = omega (arith, arcs_few, lent_many (max_arc a) count);
    source_within = source_within;
    sink_within = sink_within;
    ends_apart = ends_apart;
    joined = All-weaker (IsInRange a.nodes) (JoinsNodes a.nodes) (λ b in_it. in_it.0) (max_spelled a).arcs in_range;
    capacities = lent_all (max_arc a) count (IsInRange a.nodes) HasCapacityAlone (λ k in_it. (refl, refl, in_it.1.1, in_it.1.2)) in_range;
  }
