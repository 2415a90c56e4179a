-- Arrays that are written as a text come back from it.
use Rattle.std.proofs.Common.{◌≡◌, ◌∙◌, ◌≤◌, ◌<◌, ◌+◌, ◌==◌, ◌++◌, ℕ, ℤ, zero, suc, pos, List, [], ◌∷◌, true, false, Result, Ok, Err, Some, length, get_or, map, take, drop, refl, sym, ap, subst, arith}
use Rattle.std.proofs.{lemmas.Bool.{ne_eqb}, lemmas.List.{ext_get_or, get_or-map, length-map, take-append-le, take_all}}
use Rattle.std.proofs.lemmas.List.FromFn.{get_or-map-range_with_len, length-map-range_with_len}
use Rattle.std.specs.{List.{range_with_len, zip}, Ordering.{eq_by_cmp, nat_cmp}, Cmp.{nat_cmp_total, unsigned_tied}}
use Rattle.std.specs.{FinMap.{from_entries, get-from_entries}, FinMap.Entries.{find}, Option.{unwrap_or}}
use Rattle.dimacs_lines.specs.Lines.{lines}
use Rattle.dimacs_records.specs.{declared.kinds.TextKind.{TextKind}, Readings.{LineRecord}, Texts.{SpellsValue}}
use Rattle.dimacs_records.specs.declared.faults.ReadError.{ReadError}
use Rattle.dimacs_records.proofs.{NameLemmas.{value-without_zeros}, ReadLaws.{spells_one_value}}
use Rattle.dimacs_network.specs.{declared.network.ArcView.{ArcView}, Arcs.{no_arc}}
use Rattle.dimacs_instance.specs.{Graph.{GivesGraph, canonical_graph}, MaxTexts.{GivesMax, canonical_max}}
use Rattle.dimacs_instance.specs.{MinFlows.{supply_of}, MinTexts.{GivesMin, canonical_min}}
use Rattle.dimacs_instance.proofs.{GraphLemmas.{graph_round_trip, one_graph}, MaxTextLemmas.{max_round_trip, one_max}}
use Rattle.dimacs_instance.proofs.MinTextLemmas.{min_round_trip, one_min}
use Rattle.dimacs_arrays.specs.{GraphArrays.{graph_spelled, weighted_arc}, MaxArrays.{max_arc, max_spelled}}
use Rattle.dimacs_arrays.specs.MinArrays.{min_arc, min_spelled}
use Rattle.dimacs_fill.specs.{Filling.{Array, IsFilled, ReadsArcsInto}, GraphFilled.{HoldGraph, graph_sizes}}
use Rattle.dimacs_fill.specs.{MaxFilled.{HoldMax, max_sizes}, MinFilled.{HoldMin, min_sizes, supplies_of}}
use Rattle.dimacs_c.specs.Laws.{Gets, GraphArraysLaw, HaveGraph, HaveMax, HaveMin, MaxArraysLaw, MinArraysLaw, ReadsOrFails}
use Rattle.dimacs_records.specs.declared.faults.ReadError.TheVariants as read_errors
use Rattle.dimacs_records.specs.declared.kinds.TextKind.TheVariants as kinds

-- a filled array begins with the items
pub front : {X : Type 0} (items xs : List X) (a : Array X) → items ≡ xs → IsFilled items a → Gets xs a
front items xs a same is room =
    let fits : length items ≤ length a.0 = rw same room in
    let all : take (length items) a.1 ≡ items =
    ap (take (length items)) is ∙ (ap (λ ys. take (length items) (ys ++ drop (length items) a.0)) (take_all (length a.0) items fits)
    ∙ (take-append-le (length items) items (drop (length items) a.0) (omega arith) ∙ take_all (length items) items (omega arith))) in
    rw same at all

-- a text that spells this value is read, and gives what it has
pub come_back : {V W : Type 0} (kind : TextKind) (gives : List LineRecord → V → Type 0) (text : List ℕ) (own : V) → ((rs : List LineRecord) (v w : V) → gives rs v → gives rs w → v ≡ w)
    → SpellsValue kind gives (lines text) own → (size : V → W) (gets : V → Type 0) (holds : W → Type 0) → (gets own → holds (size own))
    → (result : Result W ReadError) → ReadsArcsInto kind text (SpellsValue kind gives (lines text)) size gets result → ReadsOrFails holds result
come_back kind gives text own one spells size gets holds back result (Ok v, reads, same, got) =
    let is : v ≡ own = spells_one_value kind gives (lines text) v own one reads.0 spells in
    subst (ReadsOrFails holds) (sym same) (subst (λ x. holds (size x)) (sym is) (back (subst gets is got)))
come_back kind gives text own one spells size gets holds back result (Err (read_errors.Refused place reason), reads, same, got) = absurd (reads.2 own spells)
come_back kind gives text own one spells size gets holds back result (Err read_errors.Device, reads, same, got) = subst (ReadsOrFails holds) (sym same) tt
come_back kind gives text own one spells size gets holds back result (Err read_errors.Memory, reads, same, got) = subst (ReadsOrFails holds) (sym same) tt

-- the arcs of these arrays, so many
module _ (arc_of : ℕ → ArcView) (n : ℕ) where
  many : length (map arc_of (range_with_len 0 n)) ≡ n
  many = length-map-range_with_len arc_of 0 n

  -- the column of each arc's part is the array that it came from
  column : {X : Type 0} (part : ArcView → X) (xs : List X) (d : X) → length xs ≡ n → ((k : ℕ) → part (arc_of k) ≡ get_or xs k d) → map part (map arc_of (range_with_len 0 n)) ≡ xs
  column part xs d long is =
      let arcs = map arc_of (range_with_len 0 n) in
      ext_get_or d (map part arcs) xs (length-map arcs part ∙ (many ∙ sym long)) (λ k inside.
      let below : k < n = omega (arith, inside, length-map arcs part, many) in
      get_or-map part arcs k no_arc d (omega (arith, below, many)) ∙ (ap part (get_or-map-range_with_len arc_of 0 n k k no_arc below (omega arith)) ∙ is k))

pub graph_back : GraphArraysLaw
graph_back a heads_long weights_long lawful tails heads weights =
    let n = length a.tails.now in
    come_back kinds.Graph GivesGraph (canonical_graph (graph_spelled a)) (graph_spelled a) one_graph (graph_round_trip (graph_spelled a) lawful) graph_sizes (HoldGraph tails heads weights) (HaveGraph a tails heads weights) (λ (ts, hs, ws). (
      ap (λ k. record { nodes = a.nodes; arcs = k }) (many (weighted_arc a) n),
      front _ a.tails.now tails (column (weighted_arc a) n (λ (x : ArcView). x.tail) a.tails.now 0 refl (λ k. refl)) ts,
      front _ a.heads.now heads (column (weighted_arc a) n (λ (x : ArcView). x.head) a.heads.now 0 heads_long (λ k. refl)) hs,
      front _ a.weights.now weights (column (weighted_arc a) n (λ (x : ArcView). x.cost) a.weights.now (pos 0) weights_long (λ k. refl)) ws,
    ))

pub max_back : MaxArraysLaw
max_back a heads_long caps_long lawful tails heads caps =
    let n = length a.tails.now in
    come_back kinds.Max GivesMax (canonical_max (max_spelled a)) (max_spelled a) one_max (max_round_trip (max_spelled a) lawful) max_sizes (HoldMax tails heads caps) (HaveMax a tails heads caps) (λ (ts, hs, cs). (
      ap (λ k. record { nodes = a.nodes; source = a.source; sink = a.sink; arcs = k }) (many (max_arc a) n),
      front _ a.tails.now tails (column (max_arc a) n (λ (x : ArcView). x.tail) a.tails.now 0 refl (λ k. refl)) ts,
      front _ a.heads.now heads (column (max_arc a) n (λ (x : ArcView). x.head) a.heads.now 0 heads_long (λ k. refl)) hs,
      front _ a.caps.now caps (column (max_arc a) n (λ (x : ArcView). x.cap) a.caps.now (pos 0) caps_long (λ k. refl)) cs,
    ))

-- the supply of each node, by ID
supply_at : (xs : List ℤ) (first k : ℕ) → k < length xs → find nat_cmp (first + k) (zip (range_with_len first (length xs)) xs) ≡ Some (get_or xs k (pos 0))
supply_at [] first k inside = absurd (omega (arith, inside))
supply_at (x ∷ xs) first zero inside =
    let same : (first + 0 == first) ≡ true = grind arith in
    let here : eq_by_cmp nat_cmp (first + 0) first ≡ true = unsigned_tied (first + 0) first ∙ same in
    rw here refl
supply_at (x ∷ xs) first (suc k) inside =
    let past : eq_by_cmp nat_cmp (first + suc k) first ≡ false = unsigned_tied (first + suc k) first ∙ ne_eqb (first + suc k) first (λ same. omega (arith, same)) in
    let same : first + 1 + k ≡ first + suc k = omega arith in
    rw past (subst (λ id. find nat_cmp id (zip (range_with_len (first + 1) (length xs)) xs) ≡ Some (get_or xs k (pos 0))) same (supply_at xs (first + 1) k (omega (arith, inside))))

pub min_back : MinArraysLaw
min_back a heads_long lows_long caps_long costs_long supplies_long lawful tails heads lows caps costs supplies =
    let n = length a.tails.now in
    let xs = a.supplies.now in
    let named = zip (range_with_len 1 (length xs)) xs in
    let at : (k : ℕ) → k < length xs → supply_of (min_spelled a) (1 + k) ≡ get_or xs k (pos 0) = λ k inside.
    value-without_zeros (from_entries named) (1 + k) ∙ ap (λ o. unwrap_or o (pos 0)) (get-from_entries nat_cmp_total named (1 + k) ∙ supply_at xs 1 k inside) in
    let long : length (supplies_of (min_spelled a)) ≡ length xs = length-map-range_with_len (supply_of (min_spelled a)) 1 a.nodes ∙ sym supplies_long in
    let same : supplies_of (min_spelled a) ≡ xs = ext_get_or (pos 0) (supplies_of (min_spelled a)) xs long (λ k inside.
    let within : k < length xs = omega (arith, inside, long) in
    get_or-map-range_with_len (supply_of (min_spelled a)) 1 a.nodes k (1 + k) (pos 0) (omega (arith, within, supplies_long)) (omega arith) ∙ at k within) in
    come_back kinds.Min GivesMin (canonical_min (min_spelled a)) (min_spelled a) one_min (min_round_trip (min_spelled a) lawful) min_sizes (HoldMin tails heads lows caps costs supplies) (HaveMin a tails heads lows caps costs supplies) (λ (ts, hs, ls, us, cs, ss). (
      ap (λ k. record { nodes = a.nodes; arcs = k }) (many (min_arc a) n),
      front _ a.tails.now tails (column (min_arc a) n (λ (x : ArcView). x.tail) a.tails.now 0 refl (λ k. refl)) ts,
      front _ a.heads.now heads (column (min_arc a) n (λ (x : ArcView). x.head) a.heads.now 0 heads_long (λ k. refl)) hs,
      front _ a.lows.now lows (column (min_arc a) n (λ (x : ArcView). x.low) a.lows.now (pos 0) lows_long (λ k. refl)) ls,
      front _ a.caps.now caps (column (min_arc a) n (λ (x : ArcView). x.cap) a.caps.now (pos 0) caps_long (λ k. refl)) us,
      front _ a.costs.now costs (column (min_arc a) n (λ (x : ArcView). x.cost) a.costs.now (pos 0) costs_long (λ k. refl)) cs,
      front _ xs supplies same ss,
    ))
