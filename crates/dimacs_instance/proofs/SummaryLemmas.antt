-- The records of instances, with the arcs only counted.
use Rattle.std.proofs.Common.{◌≡◌, ℕ, ◌+◌, ◌<◌, ◌≤◌, ◌∷◌, ◌++◌, [], List, length, map, refl, ap, ap₂, sym, ◌∙◌, arith}
use Rattle.std.proofs.{lemmas.Bool.Decides.{nat_tests}, lemmas.List.{length-append, map-append}}
use Rattle.std.proofs.lemmas.List.Elements.{All-nil, All-push}
use Rattle.std.specs.Prelude.{ℤ, Result, Ok, Err}
use Rattle.dimacs_lines.specs.Limits.{most_count, most_nodes}
use Rattle.dimacs_records.specs.{declared.faults.ReadError.{ReadError}, declared.kinds.TextKind.TheVariants.{Graph}}
use Rattle.dimacs_records.specs.{declared.reasons.Reason.{Reason}, declared.records.Record.{Record}, Ranges.{IsWhole}}
use Rattle.dimacs_records.specs.declared.records.Record.TheVariants.{GraphArc, GraphProblem}
use Rattle.dimacs_records.specs.{Readings.{LineRecord, records_of}, Tests.{Passes, PassesEnd, plain_context_after}}
use Rattle.dimacs_records.specs.{Texts.{Reads, SpellsValue}, declared.kinds.TextKind.{TextKind}}
use Rattle.dimacs_records.proofs.ReadLaws.{spells_one_value}
use Rattle.dimacs_network.specs.{declared.network.ArcView.{ArcView}, Arcs.{JoinsNodes}, KeptArcs.{weight_arc}}
use Rattle.dimacs_instance.specs.Graph.{GivesGraph, HasWeightAlone, graph_arc}
use Rattle.dimacs_instance.specs.Summaries.{ReadsSummary, SumsUpGraph, GivesSummary, IsGraphCountedBy, counted_lines}
use Rattle.dimacs_instance.specs.declared.summaries.graph.GraphCount.{GraphCount}
use Rattle.dimacs_instance.proofs.GraphLemmas.{plain_context_by_records}
use Rattle.dimacs_records.specs.declared.faults.ReadError.TheVariants as read_errors

-- ---- a graph
pub counted_none : (nodes declared : ℕ) → nodes ≤ most_nodes → declared ≤ most_count → IsGraphCountedBy (record { nodes = nodes; declared = declared; arcs = 0 }) (GraphProblem nodes declared ∷ [])
counted_none nodes declared nodes_few arcs_few = record {
  begun = record { nodes = nodes; declared = declared; arcs = [] };
  is_begun = record { nodes_few = nodes_few; arcs_few = arcs_few; no_more = omega arith; joined = All-nil (JoinsNodes nodes); weights = All-nil HasWeightAlone };
  records = refl;
  nodes = refl;
  declared = refl;
  arcs = refl;
}

module _ (c : GraphCount) (tail head : ℕ) (weight : ℤ) (passes : Passes (counted_lines c) (GraphArc tail head weight)) where
  arc_room : c.arcs < c.declared
  arc_room = grind (arith, nat_tests, passes.room)

  abbrev arc : ArcView
  arc = weight_arc tail head weight

  pub counted_more : 1 ≤ tail → 1 ≤ head → IsWhole weight → (rs : List Record) → IsGraphCountedBy c rs
      → IsGraphCountedBy (record { nodes = c.nodes; declared = c.declared; arcs = c.arcs + 1 }) (rs ++ GraphArc tail head weight ∷ [])
  counted_more from to whole rs counted =
      let b = counted.begun in
      let joins : JoinsNodes c.nodes arc = ((from, grind (arith, nat_tests, passes.second_within)), (to, grind (arith, nat_tests, passes.third_within))) in
      record {
        begun = record { nodes = b.nodes; declared = b.declared; arcs = b.arcs ++ arc ∷ [] };
        is_begun = record {
          nodes_few = counted.is_begun.nodes_few;
          arcs_few = counted.is_begun.arcs_few;
          no_more = omega (arith, length-append b.arcs (arc ∷ []), arc_room, counted.arcs, counted.declared);
          joined = All-push (JoinsNodes b.nodes) b.arcs arc counted.is_begun.joined (rw counted.nodes at joins);
          weights = All-push HasWeightAlone b.arcs arc counted.is_begun.weights (refl, refl, whole);
        };
        records = ap (λ (earlier : List Record). earlier ++ GraphArc tail head weight ∷ []) counted.records ∙ ap (λ (arcs : List Record). GraphProblem b.nodes b.declared ∷ arcs) (sym (map-append graph_arc b.arcs (arc ∷ [])));
        nodes = counted.nodes;
        declared = counted.declared;
        arcs = omega (arith, length-append b.arcs (arc ∷ []), counted.arcs);
      }

pub counted_by_records : (c : GraphCount) (rs : List Record) → IsGraphCountedBy c rs → counted_lines c ≡ plain_context_after rs
counted_by_records c rs counted = rw (counted.nodes, counted.declared, counted.arcs, counted.records) (plain_context_by_records counted.begun)

pub gives_graph_summary : (c : GraphCount) → PassesEnd Graph (counted_lines c) → (rs : List LineRecord) → IsGraphCountedBy c (records_of rs) → GivesSummary GivesGraph SumsUpGraph rs (record { nodes = c.nodes; arcs = c.arcs })
gives_graph_summary c p rs counted =
    let b = counted.begun in
    let short : c.declared ≤ c.arcs = grind (arith, nat_tests, p.finished) in
    let full : b.declared ≡ length b.arcs = omega (arith, short, counted.declared, counted.arcs, counted.is_begun.no_more) in (
      record { nodes = b.nodes; arcs = b.arcs },
      (
        counted.records ∙ ap (λ (n : ℕ). GraphProblem b.nodes n ∷ map graph_arc b.arcs) full,
        record { nodes_few = counted.is_begun.nodes_few; arcs_few = omega (arith, counted.is_begun.no_more, counted.is_begun.arcs_few); joined = counted.is_begun.joined; weights = counted.is_begun.weights },
      ),
      ap₂ (λ (n a : ℕ). record { nodes = n; arcs = a }) counted.nodes counted.arcs,
    )

-- ---- any kind
module _ {T V : Type 0} (kind : TextKind) (gives : List LineRecord → V → Type 0) (summary_of : V → T) (one : (rs : List LineRecord) (v w : V) → gives rs v → gives rs w → v ≡ w) (all : List (List ℕ)) (fault : ℕ → ℕ → Reason → Type 0) where
  abbrev sums : T → V → Type 0
  sums s v = s ≡ summary_of v

  pub reads_summary : (result : Result T ReadError) → Reads (SpellsValue kind (λ rs s. GivesSummary gives sums rs s) all) fault result → ReadsSummary sums (SpellsValue kind gives all) fault result
  reads_summary (Ok s) reads =
      let given = reads.0.given in
      let spelled : SpellsValue kind gives all given.0 = record { by_line = reads.0.by_line; spelled = reads.0.spelled; given = given.1 } in
      (given.0, given.2, (spelled, (λ other other_spelled. spells_one_value kind gives all other given.0 one other_spelled spelled), reads.2))
  reads_summary (Err (read_errors.Refused place reason)) reads =
      (reads.0, reads.1, λ v spelled. reads.2 (summary_of v) (record { by_line = spelled.by_line; spelled = spelled.spelled; given = (v, spelled.given, refl) }))
  reads_summary (Err read_errors.Device) reads = tt
  reads_summary (Err read_errors.Memory) reads = tt
