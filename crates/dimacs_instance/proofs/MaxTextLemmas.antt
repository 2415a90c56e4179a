-- The records of maximum flow instances, and their texts.
use Rattle.std.proofs.Common.{◌≡◌, ◌≢◌, ℕ, ◌<◌, ◌∷◌, ◌++◌, [], List, false, Some, length, map, refl, ap, ap₂, sym, ◌∙◌, arith, inl, inr, length-append}
use Rattle.std.proofs.{lemmas.Bool.{cond_both, ne_eqb}, lemmas.Int.{ints}, lemmas.List.{length-map}}
use Rattle.std.proofs.lemmas.List.Elements.{All-cons, All-head, All-map, All-tail}
use Rattle.std.specs.{Prelude.{ℤ, pos, ◌≤ℤ◌, codes, int_lt, nat_lt}, List.{All, list_any}}
use Rattle.dimacs_lines.specs.{Lines.{lines}, Limits.{IsNode}}
use Rattle.dimacs_records.specs.{declared.kinds.TextKind.TheVariants.{Max}, declared.records.End.{End}}
use Rattle.dimacs_records.specs.{declared.records.End.TheVariants.{Source, Sink}, declared.records.Record.{Record}}
use Rattle.dimacs_records.specs.declared.records.Record.TheVariants.{MaxProblem, MaxNode, MaxArc}
use Rattle.dimacs_records.specs.{Earlier.{names, is_end_node}, Forms.{form, Word, Either, Nodes, Count, Id, Whole}}
use Rattle.dimacs_records.specs.{Canonical.{CanBeSpelled, canonical_text}, Readings.{LineRecord, records_of, IsAllowed}}
use Rattle.dimacs_records.specs.Texts.{AreSpelled, AreFaultless}
use Rattle.dimacs_records.proofs.SplitLemmas.{ImageAt, image_at, All-at}
use Rattle.dimacs_records.proofs.CanonicalLaws.{canonical_spelled, numbered_all}
use Rattle.dimacs_network.specs.{declared.network.ArcView.{ArcView}, Arcs.{JoinsNodes}, KeptArcs.{capacity_arc}}
use Rattle.dimacs_instance.specs.{declared.max.ends.EndLine.{EndLine}, MaxFlows.{MaxValue, IsMax, HasCapacityAlone}}
use Rattle.dimacs_instance.specs.declared.max.ends.EndLines.TheVariants.{Neither, One, Both}
use Rattle.dimacs_instance.specs.MaxTexts.{max_arc, max_records, canonical_max, GivesMax, SpellsMax}
use Rattle.dimacs_instance.specs.MaxReading.{MaxBegun, max_node, max_begun_records, IsMaxBegun}
use Rattle.dimacs_instance.proofs.MaxLemmas.{first_problem, one_more_node, one_more_arc, all_arcs, lacking}

-- the state after all lines of an instance, with the node lines in this order
abbrev read_whole : ℕ → EndLine → EndLine → List ArcView → MaxBegun
read_whole nodes first second arcs = record { nodes = nodes; declared = length arcs; ends = Both first second; arcs = arcs }

abbrev source_line : MaxValue → EndLine
source_line m = record { node = m.source; end = Source }

abbrev sink_line : MaxValue → EndLine
sink_line m = record { node = m.sink; end = Sink }

source_first : (m : MaxValue) → IsMax m → IsMaxBegun (read_whole m.nodes (source_line m) (sink_line m) m.arcs)
source_first m is = record {
  nodes_few = is.nodes_few;
  arcs_few = is.arcs_few;
  no_more = omega arith;
  ends_within = (is.source_within, is.sink_within);
  ends_apart = (is.ends_apart, λ e. absurd (cc));
  joined = is.joined;
  capacities = is.capacities;
}

sink_first : (m : MaxValue) → IsMax m → IsMaxBegun (read_whole m.nodes (sink_line m) (source_line m) m.arcs)
sink_first m is = record {
  nodes_few = is.nodes_few;
  arcs_few = is.arcs_few;
  no_more = omega arith;
  ends_within = (is.sink_within, is.source_within);
  ends_apart = (λ e. is.ends_apart (sym e), λ e. absurd (cc));
  joined = is.joined;
  capacities = is.capacities;
}

other_name : (a b : EndLine) → a.node ≢ b.node → list_any (names b.node) (max_node a ∷ []) ≡ false
other_name a b other = rw (ne_eqb a.node b.node other) refl

other_end : (e f : End) (node : ℕ) → e ≢ f → list_any (is_end_node f) (MaxNode node e ∷ []) ≡ false
other_end Source Source node other = absurd (other refl)
other_end Source Sink node other = refl
other_end Sink Source node other = refl
other_end Sink Sink node other = absurd (other refl)

not_below_zero : (cap : ℤ) → pos 0 ≤ℤ cap → int_lt cap (pos 0) ≡ false
not_below_zero cap least = grind (arith, ints)

module _ (nodes : ℕ) (first second : EndLine) (arcs : List ArcView) (is : IsMaxBegun (read_whole nodes first second arcs)) where
  arc_allowed : (p n k r : Record) (bs : List Record) → p ≡ MaxProblem nodes (length arcs) → n ≡ max_node first → k ≡ max_node second → ImageAt max_arc arcs bs r → IsAllowed (p ∷ n ∷ k ∷ bs) r
  arc_allowed p n k r bs problem node next at =
      let before : p ∷ n ∷ k ∷ bs ≡ MaxProblem nodes (length arcs) ∷ max_node first ∷ max_node second ∷ map max_arc at.front = cc in
      let joins = All-at (JoinsNodes nodes) arcs at.front at.back at.x at.xs_are is.joined in
      let alone = All-at HasCapacityAlone arcs at.front at.back at.x at.xs_are is.capacities in
      let room : length at.front < length arcs = omega (arith, ap length at.xs_are, length-append at.front (at.x ∷ at.back)) in
      rw (before, at.y_is) (one_more_arc nodes (length arcs) (Both first second) at.front at.x.tail at.x.head at.x.cap joins.0.1 joins.1.1
      (lacking nodes (length arcs) (Both first second) at.front) (not_below_zero at.x.cap alone.2) room)

  --   its records have no fault
  all_allowed : (before after : List Record) (r : Record) → max_begun_records (read_whole nodes first second arcs) ≡ before ++ r ∷ after → IsAllowed before r
  all_allowed [] after r e = let problem : r ≡ MaxProblem nodes (length arcs) = cc in rw problem (first_problem nodes (length arcs))
  all_allowed (p ∷ []) after r e =
      let problem : p ≡ MaxProblem nodes (length arcs) = cc in
      let node : r ≡ max_node first = cc in
      rw (problem, node) (one_more_node nodes (length arcs) Neither [] first.node first.end refl is.ends_within.0.1 refl refl)
  all_allowed (p ∷ n ∷ []) after r e =
      let problem : p ≡ MaxProblem nodes (length arcs) = cc in
      let node : n ≡ max_node first = cc in
      let next : r ≡ max_node second = cc in
      rw (problem, node, next) (one_more_node nodes (length arcs) (One first) [] second.node second.end refl is.ends_within.1.1 (other_name first second is.ends_apart.0) (other_end first.end second.end first.node is.ends_apart.1))
  all_allowed (p ∷ n ∷ k ∷ bs) after r e =
      let problem : p ≡ MaxProblem nodes (length arcs) = cc in
      let node : n ≡ max_node first = cc in
      let next : k ≡ max_node second = cc in
      arc_allowed p n k r bs problem node next (image_at max_arc arcs bs after r (cc))

  all_faultless : AreFaultless Max (max_begun_records (read_whole nodes first second arcs))
  all_faultless = record {
    allowed = all_allowed;
    complete = all_arcs nodes (length arcs) (Both first second) arcs (lacking nodes (length arcs) (Both first second) arcs) (omega arith);
  }

  problem_fits : CanBeSpelled Max (MaxProblem nodes (length arcs))
  problem_fits = record {
    form = form (codes "p") (Word (codes "max") ∷ Nodes ∷ Count ∷ []);
    of_kind = (0, omega arith, refl);
    for_kind = refl;
    letter = refl;
    fit = (refl, ((omega (arith, ints), omega (arith, ints, is.nodes_few)), ((omega (arith, ints), omega (arith, ints, is.arcs_few)), tt)));
  }

  node_fits : (id : ℕ) (end : End) → IsNode nodes id → CanBeSpelled Max (MaxNode id end)
  node_fits id Source within = record {
    form = form (codes "n") (Id ∷ Either (codes "s") (codes "t") ∷ []);
    of_kind = (1, omega arith, refl);
    for_kind = refl;
    letter = refl;
    fit = ((omega (arith, ints, within.0), omega (arith, ints, within.1, is.nodes_few)), (inl refl, tt));
  }
  node_fits id Sink within = record {
    form = form (codes "n") (Id ∷ Either (codes "s") (codes "t") ∷ []);
    of_kind = (1, omega arith, refl);
    for_kind = refl;
    letter = refl;
    fit = ((omega (arith, ints, within.0), omega (arith, ints, within.1, is.nodes_few)), (inr refl, tt));
  }

  arc_fits : (a : ArcView) → JoinsNodes nodes a → HasCapacityAlone a → CanBeSpelled Max (max_arc a)
  arc_fits a joins alone = record {
    form = form (codes "a") (Id ∷ Id ∷ Whole ∷ []);
    of_kind = (2, omega arith, refl);
    for_kind = refl;
    letter = refl;
    fit = ((omega (arith, ints, joins.0.0), omega (arith, ints, joins.0.1, is.nodes_few)), ((omega (arith, ints, joins.1.0), omega (arith, ints, joins.1.1, is.nodes_few)), (alone.3, tt)));
  }

  -- its canonical text spells its records
  all_spelled : AreSpelled Max (lines (canonical_text (max_begun_records (read_whole nodes first second arcs)))) (map (λ (r : Record). Some r) (max_begun_records (read_whole nodes first second arcs)))
  all_spelled =
      let arcs_fit = All-map (CanBeSpelled Max) max_arc arcs (λ k d below. arc_fits _ (is.joined k d below) (is.capacities k d below)) in
      let ends_fit = All-cons (CanBeSpelled Max) (max_node first) (max_node second ∷ map max_arc arcs) (node_fits first.node first.end is.ends_within.0)
      (All-cons (CanBeSpelled Max) (max_node second) (map max_arc arcs) (node_fits second.node second.end is.ends_within.1) arcs_fit) in
      canonical_spelled Max (max_begun_records (read_whole nodes first second arcs)) (All-cons (CanBeSpelled Max) (MaxProblem nodes (length arcs)) (max_node first ∷ max_node second ∷ map max_arc arcs) problem_fits ends_fit)
      (omega (arith, length-map arcs max_arc, is.arcs_few))

pub max_faultless : (rs : List LineRecord) (m : MaxValue) → GivesMax rs m → AreFaultless Max (records_of rs)
max_faultless rs m h = elim h.0 [
  | inl by_source ↦ rw by_source (all_faultless m.nodes (source_line m) (sink_line m) m.arcs (source_first m h.1))
  | inr by_sink ↦ rw by_sink (all_faultless m.nodes (sink_line m) (source_line m) m.arcs (sink_first m h.1))
]

-- the canonical text of an instance spells it
pub max_round_trip : (m : MaxValue) → IsMax m → SpellsMax (canonical_max m) m
max_round_trip m is =
    cond_both (nat_lt m.source m.sink) (MaxNode m.source Source, MaxNode m.sink Sink) (MaxNode m.sink Sink, MaxNode m.source Source) (λ ends. SpellsMax (canonical_text (max_records m ends)) m)
    (λ _. record {
      by_line = map (λ (r : Record). Some r) (max_records m (MaxNode m.source Source, MaxNode m.sink Sink));
      spelled = all_spelled m.nodes (source_line m) (sink_line m) m.arcs (source_first m is);
      given = (inl (numbered_all (max_records m (MaxNode m.source Source, MaxNode m.sink Sink))), is);
    }) (λ _. record {
      by_line = map (λ (r : Record). Some r) (max_records m (MaxNode m.sink Sink, MaxNode m.source Source));
      spelled = all_spelled m.nodes (sink_line m) (source_line m) m.arcs (sink_first m is);
      given = (inr (numbered_all (max_records m (MaxNode m.sink Sink, MaxNode m.source Source))), is);
    })

-- the arc of a record, and the instance of a problem line, node lines and arcs
arc_of : Record → ArcView
arc_of (MaxArc t h cap) = capacity_arc t h cap
arc_of r = capacity_arc 0 0 (pos 0)

max_of : List Record → MaxValue
max_of (MaxProblem n m ∷ MaxNode i Source ∷ MaxNode j end ∷ rs) = record { nodes = n; source = i; sink = j; arcs = map arc_of rs }
max_of (MaxProblem n m ∷ MaxNode i Sink ∷ MaxNode j end ∷ rs) = record { nodes = n; source = j; sink = i; arcs = map arc_of rs }
max_of rs = record { nodes = 0; source = 0; sink = 0; arcs = [] }

arc_of-max_arc : (a : ArcView) → HasCapacityAlone a → arc_of (max_arc a) ≡ a
unfolding arc_of
arc_of-max_arc a alone = sym (ap₂ (λ l c. record { tail = a.tail; head = a.head; low = l; cap = a.cap; cost = c }) alone.0 alone.1)

arcs_of-max_arcs : (arcs : List ArcView) → All HasCapacityAlone arcs → map arc_of (map max_arc arcs) ≡ arcs
arcs_of-max_arcs [] alone = refl
arcs_of-max_arcs (a ∷ arcs) alone = ap₂ (λ x xs. x ∷ xs) (arc_of-max_arc a (All-head HasCapacityAlone a arcs alone)) (arcs_of-max_arcs arcs (All-tail HasCapacityAlone a arcs alone))

by_source_first : (m : MaxValue) → IsMax m → max_of (max_records m (MaxNode m.source Source, MaxNode m.sink Sink)) ≡ m
unfolding max_of
by_source_first m is = ap (λ arcs. record { nodes = m.nodes; source = m.source; sink = m.sink; arcs = arcs }) (arcs_of-max_arcs m.arcs is.capacities)

by_sink_first : (m : MaxValue) → IsMax m → max_of (max_records m (MaxNode m.sink Sink, MaxNode m.source Source)) ≡ m
unfolding max_of
by_sink_first m is = ap (λ arcs. record { nodes = m.nodes; source = m.source; sink = m.sink; arcs = arcs }) (arcs_of-max_arcs m.arcs is.capacities)

given_by : (rs : List LineRecord) (m : MaxValue) → GivesMax rs m → max_of (records_of rs) ≡ m
given_by rs m h = elim h.0 [
  | inl by_source ↦ ap max_of by_source ∙ by_source_first m h.1
  | inr by_sink ↦ ap max_of by_sink ∙ by_sink_first m h.1
]

-- records give only one instance
pub one_max : (rs : List LineRecord) (g h : MaxValue) → GivesMax rs g → GivesMax rs h → g ≡ h
one_max rs g h a b = sym (given_by rs g a) ∙ given_by rs h b
