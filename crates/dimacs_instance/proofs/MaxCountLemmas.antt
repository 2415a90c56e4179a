-- The records of maximum flow instances, with the arcs only counted.
use Rattle.std.proofs.Common.{◌≡◌, ℕ, ◌+◌, ◌<◌, ◌≤◌, ◌∷◌, ◌++◌, [], List, length, map, refl, ap, sym, ◌∙◌, arith, inl, inr, append_assoc, append-nil}
use Rattle.std.proofs.{lemmas.Bool.Decides.{nat_tests}, lemmas.Int.{ints}, lemmas.List.Elements.{All-nil, All-push}}
use Rattle.std.proofs.lemmas.List.{length-append, map-append, nil_from_length}
use Rattle.std.specs.Prelude.{ℤ, pos, ◌≤ℤ◌}
use Rattle.dimacs_lines.specs.Limits.{most_count, most_nodes}
use Rattle.dimacs_records.specs.{declared.kinds.TextKind.TheVariants.{Max}, declared.records.End.{End}}
use Rattle.dimacs_records.specs.{declared.records.Record.{Record}, Ranges.{IsWhole}, Readings.{LineRecord, records_of}}
use Rattle.dimacs_records.specs.{declared.records.Record.TheVariants.{MaxArc, MaxNode, MaxProblem}, Spelling.{kind_of}}
use Rattle.dimacs_records.specs.Tests.{Passes, PassesEnd, end_context_of, context_after}
use Rattle.dimacs_network.specs.{declared.network.ArcView.{ArcView}, Arcs.{JoinsNodes}, KeptArcs.{capacity_arc}}
use Rattle.dimacs_instance.specs.{MaxFlows.{HasCapacityAlone, MaxValue}, MaxTexts.{GivesMax, max_arc}}
use Rattle.dimacs_instance.specs.MaxReading.{MaxBegun, MaxCount, context, end_context, end_records, max_begun_records, AreNodes, EndsAreDistinct, IsMaxBegun, IsMaxCountedBy}
use Rattle.dimacs_instance.specs.{inside.MaxReading.{AreEnds}, Summaries.{SumsUpMax, GivesSummary}}
use Rattle.dimacs_instance.specs.declared.max.ends.EndLines.{EndLines}
use Rattle.dimacs_instance.specs.declared.max.ends.EndLines.TheVariants.{Neither, One, Both}
use Rattle.dimacs_instance.proofs.MaxLemmas.{end_context_by_records, context_by_records}

pub counted_none : (nodes declared : ℕ) → nodes ≤ most_nodes → declared ≤ most_count → IsMaxCountedBy (record { nodes = nodes; declared = declared; ends = Neither; arcs = 0 }) (MaxProblem nodes declared ∷ [])
counted_none nodes declared nodes_few arcs_few = record {
  begun = record { nodes = nodes; declared = declared; ends = Neither; arcs = [] };
  is_begun = record {
    nodes_few = nodes_few;
    arcs_few = arcs_few;
    no_more = omega arith;
    ends_within = tt;
    ends_apart = tt;
    joined = All-nil (JoinsNodes nodes);
    capacities = All-nil HasCapacityAlone;
  };
  records = refl;
  counts = refl;
}

module _ (c : MaxCount) (rs : List Record) (counted : IsMaxCountedBy c rs) where
  pub counted_by_records : (r : Record) → kind_of r ≡ Max → context c r ≡ context_after rs r
  counted_by_records r of_kind = rw (counted.counts, counted.records) (context_by_records counted.begun r of_kind)

  pub counted_end_by_records : end_context c ≡ end_context_of Max rs
  counted_end_by_records = rw (counted.counts, counted.records) (end_context_by_records counted.begun)

  module _ (tail head : ℕ) (cap : ℤ) (passes : Passes (context c (MaxArc tail head cap)) (MaxArc tail head cap)) where
    arc_room : c.arcs < c.declared
    arc_room = grind (arith, nat_tests, passes.room)

    not_negative : pos 0 ≤ℤ cap
    not_negative = grind (arith, ints, passes.low)

    abbrev arc : ArcView
    arc = capacity_arc tail head cap

    pub one_more_arc : 1 ≤ tail → 1 ≤ head → IsWhole cap → IsMaxCountedBy (record { nodes = c.nodes; declared = c.declared; ends = c.ends; arcs = c.arcs + 1 }) (rs ++ MaxArc tail head cap ∷ [])
    one_more_arc from to whole =
        let b = counted.begun in
        let nodes : c.nodes ≡ b.nodes = ap (λ (m : MaxCount). m.nodes) counted.counts in
        let joins : JoinsNodes c.nodes arc = ((from, grind (arith, nat_tests, passes.second_within)), (to, grind (arith, nat_tests, passes.third_within))) in
        let room : length b.arcs < b.declared = rw counted.counts at arc_room in
        record {
          begun = record { nodes = b.nodes; declared = b.declared; ends = b.ends; arcs = b.arcs ++ arc ∷ [] };
          is_begun = record {
            nodes_few = counted.is_begun.nodes_few;
            arcs_few = counted.is_begun.arcs_few;
            no_more = omega (arith, length-append b.arcs (arc ∷ []), room);
            ends_within = counted.is_begun.ends_within;
            ends_apart = counted.is_begun.ends_apart;
            joined = All-push (JoinsNodes b.nodes) b.arcs arc counted.is_begun.joined (rw nodes at joins);
            capacities = All-push HasCapacityAlone b.arcs arc counted.is_begun.capacities (refl, refl, not_negative, whole);
          };
          records = ap (λ (earlier : List Record). earlier ++ MaxArc tail head cap ∷ []) counted.records
              ∙ ap (λ (later : List Record). MaxProblem b.nodes b.declared ∷ later) (append_assoc (end_records b.ends) (map max_arc b.arcs) (MaxArc tail head cap ∷ [])
              ∙ ap (λ (arcs : List Record). end_records b.ends ++ arcs) (sym (map-append max_arc b.arcs (arc ∷ []))));
          counts = rw (counted.counts, length-append b.arcs (arc ∷ [])) refl;
        }

  nodes_with : (nodes : ℕ) (ends more : EndLines) (id : ℕ) (end : End) → AreNodes nodes ends → 1 ≤ id → id ≤ nodes → end_records more ≡ end_records ends ++ MaxNode id end ∷ [] → AreNodes nodes more
  nodes_with nodes Neither (One first) id end within least most is = let same : first.node ≡ id = cc in rw same (least, most)
  nodes_with nodes (One first) (Both one other) id end within least most is =
      let same : one.node ≡ first.node = cc in
      let new : other.node ≡ id = cc in
      rw (same, new) (within, (least, most))
  nodes_with nodes Neither Neither id end within least most is = tt
  nodes_with nodes Neither (Both one other) id end within least most is = absurd (cc)
  nodes_with nodes (One first) Neither id end within least most is = tt
  nodes_with nodes (One first) (One one) id end within least most is = absurd (cc)
  nodes_with nodes (Both one other) more id end within least most is = absurd (no_third more is)
    where
      no_third : (lines : EndLines) → end_records lines ≡ end_records (Both one other) ++ MaxNode id end ∷ [] → ⊥
      no_third Neither e = cc
      no_third (One a) e = cc
      no_third (Both a b) e = cc

  module _ (id : ℕ) (end : End) (passes : Passes (context c (MaxNode id end)) (MaxNode id end)) where
    no_arcs : c.arcs ≤ 0
    no_arcs = grind (arith, nat_tests, passes.placed)

    pub one_more_node : (more : EndLines) → 1 ≤ id → EndsAreDistinct more → end_records more ≡ end_records c.ends ++ MaxNode id end ∷ []
        → IsMaxCountedBy (record { nodes = c.nodes; declared = c.declared; ends = more; arcs = c.arcs }) (rs ++ MaxNode id end ∷ [])
    one_more_node more least apart is =
        let b = counted.begun in
        let nodes : c.nodes ≡ b.nodes = ap (λ (m : MaxCount). m.nodes) counted.counts in
        let ends : c.ends ≡ b.ends = ap (λ (m : MaxCount). m.ends) counted.counts in
        let none : length b.arcs ≤ 0 = rw counted.counts at no_arcs in
        let empty : b.arcs ≡ [] = nil_from_length b.arcs (omega (arith, none)) in
        let within : id ≤ c.nodes = grind (arith, nat_tests, passes.second_within) in
        let lines = rw ends at is in
        record {
          begun = record { nodes = b.nodes; declared = b.declared; ends = more; arcs = b.arcs };
          is_begun = record {
            nodes_few = counted.is_begun.nodes_few;
            arcs_few = counted.is_begun.arcs_few;
            no_more = counted.is_begun.no_more;
            ends_within = nodes_with b.nodes b.ends more id end counted.is_begun.ends_within least (rw nodes at within) lines;
            ends_apart = apart;
            joined = counted.is_begun.joined;
            capacities = counted.is_begun.capacities;
          };
          records = ap (λ (earlier : List Record). earlier ++ MaxNode id end ∷ []) counted.records
              ∙ ap (λ (later : List Record). MaxProblem b.nodes b.declared ∷ later)
              (rw empty (ap (λ (front : List Record). front ++ MaxNode id end ∷ []) (append-nil (end_records b.ends)) ∙ sym lines ∙ sym (append-nil (end_records more))));
          counts = rw counted.counts refl;
        }

module _ (b : MaxBegun) (is : IsMaxBegun b) (full : b.declared ≡ length b.arcs) where
  abbrev value : ℕ → ℕ → MaxValue
  value source sink = record { nodes = b.nodes; source = source; sink = sink; arcs = b.arcs }

  gives_of : (source sink : ℕ) (rs : List LineRecord) → records_of rs ≡ max_begun_records b → AreEnds b.ends source sink → GivesMax rs (value source sink)
  gives_of source sink rs records (inl in_order) =
      let within = rw in_order at is.ends_within in
      let apart = rw in_order at is.ends_apart in (
        inl (rw (full, in_order) at records),
        record {
          nodes_few = is.nodes_few;
          arcs_few = omega (arith, is.no_more, is.arcs_few);
          source_within = within.0;
          sink_within = within.1;
          ends_apart = apart.0;
          joined = is.joined;
          capacities = is.capacities;
        },
      )
  gives_of source sink rs records (inr turned) =
      let within = rw turned at is.ends_within in
      let apart = rw turned at is.ends_apart in (
        inr (rw (full, turned) at records),
        record {
          nodes_few = is.nodes_few;
          arcs_few = omega (arith, is.no_more, is.arcs_few);
          source_within = within.1;
          sink_within = within.0;
          ends_apart = λ e. apart.0 (sym e);
          joined = is.joined;
          capacities = is.capacities;
        },
      )

pub gives_max_summary : (c : MaxCount) → PassesEnd Max (end_context c) → (source sink : ℕ) → AreEnds c.ends source sink → (rs : List LineRecord) → IsMaxCountedBy c (records_of rs)
    → GivesSummary GivesMax SumsUpMax rs (record { nodes = c.nodes; arcs = c.arcs; source = source; sink = sink })
gives_max_summary c p source sink ends rs counted =
    let b = counted.begun in
    let short : c.declared ≤ c.arcs = grind (arith, nat_tests, p.finished) in
    let reached : b.declared ≤ length b.arcs = rw counted.counts at short in
    let full : b.declared ≡ length b.arcs = omega (arith, reached, counted.is_begun.no_more) in
    let its_ends : AreEnds b.ends source sink = rw (ap (λ (m : MaxCount). m.ends) counted.counts) at ends in (
      record { nodes = b.nodes; source = source; sink = sink; arcs = b.arcs },
      gives_of b counted.is_begun full source sink rs counted.records its_ends,
      ap (λ (m : MaxCount). record { nodes = m.nodes; arcs = m.arcs; source = source; sink = sink }) counted.counts,
    )
