-- The records of minimum cost flow instances, with the arcs only counted.
use Rattle.std.proofs.Common.{◌≡◌, ℕ, ◌+◌, ◌≤◌, ◌∷◌, ◌++◌, [], List, map, refl, ap, sym, ◌∙◌, arith, append_assoc}
use Rattle.std.proofs.{lemmas.Bool.Decides.{nat_tests}, lemmas.List.{length-append, map-append}}
use Rattle.std.specs.{Prelude.{ℤ}, FinMap.{empty, insert}}
use Rattle.dimacs_lines.specs.Limits.{most_count, most_nodes, IsNode}
use Rattle.dimacs_records.specs.{declared.kinds.TextKind.TheVariants.{Min}, declared.records.Record.{Record}}
use Rattle.dimacs_records.specs.{declared.records.Record.TheVariants.{MinNode, MinProblem}, NodeValues.{without_zeros}}
use Rattle.dimacs_records.specs.{Ranges.{IsWhole}, Readings.{LineRecord, records_of}, Spelling.{kind_of}}
use Rattle.dimacs_records.specs.Tests.{Passes, PassesEnd, plain_context_after, context_after}
use Rattle.dimacs_network.specs.declared.network.ArcView.{ArcView}
use Rattle.dimacs_instance.specs.{MinFlows.{IsMin}, MinTexts.{GivesMin, min_arc, min_node, min_records}}
use Rattle.dimacs_instance.specs.MinReading.{MinCount, plain_context, context, count_of, IsMinBegun, IsMinCountedBy}
use Rattle.dimacs_instance.specs.{inside.MinReading.{without_arcs}, Summaries.{HasNodes, GivesSummary}}
use Rattle.dimacs_instance.proofs.MinLemmas.{arc_bounds, arc_joins, arc_room, begins, gives_min, law_with_arc, law_with_supply, plain_context_by_records, min_law, names_one, new_law, node, context_by_records, with_arc}

pub counted_none : (nodes declared : ℕ) → nodes ≤ most_nodes → declared ≤ most_count → IsMinCountedBy (record { nodes = nodes; declared = declared; supplies = empty; arcs = 0 }) (MinProblem nodes declared ∷ [])
counted_none nodes declared nodes_few arcs_few = record {
  begun = record { nodes = nodes; declared = declared; supplies = empty; arcs = [] };
  is_begun = new_law nodes declared nodes_few arcs_few;
  built_from = begins nodes declared;
  counts = refl;
}

arc_records : (nodes declared : ℕ) (named : List (ℕ × ℤ)) (arcs : List ArcView) (a : ArcView) → min_records nodes declared named arcs ++ min_arc a ∷ [] ≡ min_records nodes declared named (arcs ++ a ∷ [])
arc_records nodes declared named arcs a =
    ap (λ (later : List Record). MinProblem nodes declared ∷ later)
    (append_assoc (map min_node named) (map min_arc arcs) (min_arc a ∷ []) ∙ ap (λ (later : List Record). map min_node named ++ later) (sym (map-append min_arc arcs (a ∷ []))))

module _ (c : MinCount) (rs : List Record) (counted : IsMinCountedBy c rs) where
  pub counted_by_records : (r : Record) → kind_of r ≡ Min → context c r ≡ context_after rs r
  counted_by_records r of_kind = rw counted.counts (context_by_records counted.begun r of_kind rs counted.built_from)

  pub counted_lines_by_records : plain_context c ≡ plain_context_after rs
  counted_lines_by_records = rw counted.counts (plain_context_by_records counted.begun rs counted.built_from)

  pub one_more_arc : (a : ArcView) → Passes (plain_context c) (min_arc a) → 1 ≤ a.tail → 1 ≤ a.head → IsWhole a.cap → IsWhole a.cost
      → IsMinCountedBy (record { nodes = c.nodes; declared = c.declared; supplies = c.supplies; arcs = c.arcs + 1 }) (rs ++ min_arc a ∷ [])
  one_more_arc a passes tail head cap cost =
      let b = counted.begun in
      let by = counted.built_from in
      let its : Passes (plain_context (count_of b)) (min_arc a) = rw counted.counts at passes in
      record {
        begun = with_arc b a;
        is_begun = law_with_arc b a counted.is_begun (arc_joins b a its tail head) (arc_bounds b a its cap cost) (arc_room b a its);
        built_from = record {
          named = by.named;
          name_nodes = by.name_nodes;
          supplies = by.supplies;
          records = ap (λ (earlier : List Record). earlier ++ min_arc a ∷ []) by.records ∙ arc_records b.nodes b.declared by.named b.arcs a;
        };
        counts = rw (counted.counts, length-append b.arcs (a ∷ [])) refl;
      }

  pub one_more_node : (id : ℕ) (s : ℤ) → Passes (context c (MinNode id s)) (MinNode id s) → 1 ≤ id → IsWhole s
      → IsMinCountedBy (record { nodes = c.nodes; declared = c.declared; supplies = insert c.supplies id s; arcs = c.arcs }) (rs ++ MinNode id s ∷ [])
  one_more_node id s passes least whole =
      let b = counted.begun in
      let its : Passes (context (count_of b) (MinNode id s)) (MinNode id s) = rw counted.counts at passes in
      record {
        begun = record b { supplies = insert b.supplies id s };
        is_begun = law_with_supply b id s counted.is_begun (node b id s least its) whole;
        built_from = names_one b id s least its rs counted.built_from;
        counts = rw counted.counts refl;
      }

-- a node line that passes the tests names a node of the instance
pub counted_node : (c : MinCount) (id : ℕ) (s : ℤ) → Passes (context c (MinNode id s)) (MinNode id s) → 1 ≤ id → IsNode c.nodes id
counted_node c id s passes least = (least, grind (arith, nat_tests, passes.second_within))

-- the instance without its arcs is lawful
pub supplies_law : (c : MinCount) → IsMinBegun (without_arcs c) → IsMin (record { nodes = c.nodes; supplies = without_zeros c.supplies; arcs = [] })
supplies_law c law = min_law (without_arcs c) law

pub gives_nodes : (c : MinCount) → PassesEnd Min (plain_context c) → (rs : List LineRecord) → IsMinCountedBy c (records_of rs)
    → GivesSummary GivesMin HasNodes rs (record { arcs = c.arcs; without_arcs = record { nodes = c.nodes; supplies = without_zeros c.supplies; arcs = [] } })
gives_nodes c p rs counted =
    let b = counted.begun in (
      record { nodes = b.nodes; supplies = without_zeros b.supplies; arcs = b.arcs },
      gives_min b counted.is_begun (rw counted.counts at p) rs counted.built_from,
      rw counted.counts refl,
    )
