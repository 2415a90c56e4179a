-- One more record of a minimum cost flow instance while its text is read.
use Rattle.std.proofs.Common.{◌≡◌, ℕ, suc, ◌+◌, ◌<◌, ◌≤◌, ◌∷◌, ◌++◌, [], List, false, Option, Some, None, length, map, ◌==◌, ◌||◌, refl, ap, sym, ◌∙◌, subst, arith}
use Rattle.std.proofs.{lemmas.List.{map-append, length-append, append-nil, nil_from_length}, lemmas.Int.{ints}}
use Rattle.std.proofs.{lemmas.List.Elements.{All-nil, All-push}, lemmas.Bool.{lt-ltb, le-ltb}}
use Rattle.std.proofs.lemmas.Bool.Decides.{nat_tests}
use Rattle.std.specs.Prelude.{ℤ, pos, ◌≤ℤ◌, is_some, nat_lt, nat_le, int_lt, Result, Ok, Err, OnOk, OnErr}
use Rattle.std.specs.{List.{list_any}, Ordering.{nat_cmp}, FinMap.{FinMap, empty, get, insert}}
use Rattle.dimacs_lines.specs.Limits.{most_count, most_nodes, IsNode}
use Rattle.dimacs_network.proofs.Entries.{All-empty, All-entries, All-get, All-insert}
use Rattle.dimacs_records.specs.{declared.kinds.TextKind.TheVariants.{Min}, declared.order.Context.{Context}}
use Rattle.dimacs_records.specs.{declared.records.Record.{Record}, Earlier.{is_flow_arc, names, counted_in}}
use Rattle.dimacs_records.specs.{declared.records.Record.TheVariants.{MinArc, MinProblem, MinNode}, Ranges.{IsWhole}}
use Rattle.dimacs_records.specs.{Readings.{LineRecord, IsAllowed, IsComplete, records_of}, Spelling.{kind_of}}
use Rattle.dimacs_records.specs.Tests.{Passes, PassesEnd, plain_context_after, plain_context_of, context_after}
use Rattle.dimacs_records.specs.NodeValues.{is_of, without_zeros}
use Rattle.dimacs_records.proofs.ConditionLemmas.{is_allowed, is_complete}
use Rattle.dimacs_records.proofs.NameLemmas.{get_nonzero, has-from_entries, map_more, named_more, without_zeros-named}
use Rattle.dimacs_network.specs.{declared.network.ArcView.{ArcView}, Arcs.{JoinsNodes, NetworkValue}}
use Rattle.dimacs_instance.specs.MinFlows.{IsMin, IsSupply, HasBounds}
use Rattle.dimacs_instance.specs.MinTexts.{GivesMin, min_node, min_arc, min_records}
use Rattle.dimacs_instance.specs.MinReading.{MinBegun, IsMinBegunBy, plain_context, context, count_of, has_line, IsMinBegun, IsNamed}

-- arc lines, after node lines
any_flow_arc : (named : List (ℕ × ℤ)) (arcs : List ArcView) → list_any is_flow_arc (map min_node named ++ map min_arc arcs) ≡ nat_lt 0 (length arcs)
any_flow_arc [] [] = refl
any_flow_arc [] (a ∷ arcs) = sym (lt-ltb 0 (suc (length arcs)) (omega arith))
any_flow_arc (s ∷ named) arcs = any_flow_arc named arcs

no_arc_names : (id : ℕ) (arcs : List ArcView) → list_any (names id) (map min_arc arcs) ≡ false
no_arc_names id [] = refl
no_arc_names id (a ∷ arcs) = no_arc_names id arcs

any_names : (id : ℕ) (named : List (ℕ × ℤ)) (arcs : List ArcView) → list_any (names id) (map min_node named ++ map min_arc arcs) ≡ list_any (is_of id) named
any_names id [] arcs = no_arc_names id arcs
any_names id (s ∷ named) arcs = ap (λ b. (s.0 == id) || b) (any_names id named arcs)

counted_in-arcs : (arcs : List ArcView) → counted_in (map min_arc arcs) ≡ length arcs
counted_in-arcs [] = refl
counted_in-arcs (a ∷ arcs) = ap suc (counted_in-arcs arcs)

counted : (named : List (ℕ × ℤ)) (arcs : List ArcView) → counted_in (map min_node named ++ map min_arc arcs) ≡ length arcs
counted [] arcs = counted_in-arcs arcs
counted (s ∷ named) arcs = counted named arcs

-- after the problem line, these node lines and these arcs
module _ (nodes declared : ℕ) (named : List (ℕ × ℤ)) (arcs : List ArcView) where
  abbrev earlier : List Record
  earlier = min_records nodes declared named arcs

  pub node_new : (id : ℕ) (s : ℤ) → length arcs ≤ 0 → id ≤ nodes → list_any (is_of id) named ≡ false → IsAllowed earlier (MinNode id s)
  node_new id s no_arcs within new = is_allowed earlier (MinNode id s) (rw (any_flow_arc named arcs ∙ le-ltb 0 (length arcs) no_arcs, le-ltb nodes id within, any_names id named arcs, new) refl)

  pub one_more_arc : (a : ArcView) → a.tail ≤ nodes → a.head ≤ nodes → int_lt a.low (pos 0) ≡ false → int_lt a.cap a.low ≡ false → length arcs < declared → IsAllowed earlier (min_arc a)
  one_more_arc a tail head low cap room =
      let all : nat_le declared (counted_in earlier) ≡ false = rw (counted named arcs) (grind (arith, nat_tests, room)) in
      is_allowed earlier (min_arc a) (rw (le-ltb nodes a.tail tail, le-ltb nodes a.head head, low, cap, all) refl)

  pub all_arcs : declared ≤ length arcs → IsComplete Min earlier
  all_arcs full =
      let few : nat_lt (counted_in earlier) declared ≡ false = rw (counted named arcs) (le-ltb (length arcs) declared full) in
      is_complete Min earlier (rw few refl)

pub allows_problem : (n m : ℕ) → IsAllowed [] (MinProblem n m)
allows_problem n m = is_allowed [] (MinProblem n m) refl

-- what the tests know follows from the records
pub plain_context_by_records : (b : MinBegun) (rs : List Record) → IsMinBegunBy b rs → plain_context (count_of b) ≡ plain_context_after rs
plain_context_by_records b rs h = rw h.records (ap (plain_context_of (plain_context (count_of b)).problem) (sym (counted h.named b.arcs)))

has_named : (b : MinBegun) (id : ℕ) {rs : List Record} (h : IsMinBegunBy b rs) → has_line (count_of b) id ≡ list_any (is_of id) h.named
has_named b id h = ap (λ m. is_some (get m id)) h.supplies ∙ has-from_entries h.named id

arcs_by_records : (b : MinBegun) (rs : List Record) → IsMinBegunBy b rs → list_any is_flow_arc rs ≡ nat_lt 0 (length b.arcs)
arcs_by_records b rs h = rw h.records (any_flow_arc h.named b.arcs)

named_by_records : (b : MinBegun) (rs : List Record) (id : ℕ) → IsMinBegunBy b rs → list_any (names id) rs ≡ has_line (count_of b) id
named_by_records b rs id h = rw h.records (any_names id h.named b.arcs ∙ sym (has_named b id h))

pub context_by_records : (b : MinBegun) (r : Record) → kind_of r ≡ Min → (rs : List Record) → IsMinBegunBy b rs → context (count_of b) r ≡ context_after rs r
context_by_records b (MinProblem n m) of_kind rs h = plain_context_by_records b rs h
context_by_records b (MinNode id s) of_kind rs h = rw (arcs_by_records b rs h, named_by_records b rs id h) (ap (λ (e : Context). record (context (count_of b) (MinNode id s)) { problem = e.problem; counted = e.counted }) (plain_context_by_records b rs h))
context_by_records b (MinArc tail head low cap cost) of_kind rs h = plain_context_by_records b rs h
context_by_records b r of_kind rs h = absurd (cc)

-- the state after a problem line
pub begins : (n m : ℕ) → IsMinBegunBy (record { nodes = n; declared = m; supplies = empty; arcs = [] }) (MinProblem n m ∷ [])
begins n m = record {
  named = [];
  name_nodes = record { within = All-nil (λ (s : ℕ × ℤ). IsNode n s.0); once = λ id. omega arith };
  supplies = refl;
  records = refl;
}

records_more : (nodes declared id : ℕ) (s : ℤ) (rs : List Record) (named : List (ℕ × ℤ)) (arcs : List ArcView) → rs ≡ min_records nodes declared named arcs → arcs ≡ []
    → rs ++ MinNode id s ∷ [] ≡ min_records nodes declared (named ++ (id, s) ∷ []) arcs
records_more nodes declared id s rs named arcs is none =
    ap (λ rs. rs ++ MinNode id s ∷ []) is
    ∙ ap (λ (arcs : List ArcView). min_records nodes declared named arcs ++ MinNode id s ∷ []) none
    ∙ ap (λ rs. MinProblem nodes declared ∷ rs ++ MinNode id s ∷ []) (append-nil (map min_node named))
    ∙ ap (λ rs. MinProblem nodes declared ∷ rs) (sym (map-append min_node named ((id, s) ∷ [])) ∙ sym (append-nil (map min_node (named ++ (id, s) ∷ []))))
    ∙ ap (λ (arcs : List ArcView). min_records nodes declared (named ++ (id, s) ∷ []) arcs) (sym none)

-- one more node, which passes the tests
module _ (b : MinBegun) (id : ℕ) (s : ℤ) (least : 1 ≤ id) (passes : Passes (context (count_of b) (MinNode id s)) (MinNode id s)) where
  pub node : IsNode b.nodes id
  node = (least, grind (arith, nat_tests, passes.second_within))

  pub names_one : (rs : List Record) → IsMinBegunBy b rs → IsMinBegunBy (record b { supplies = insert b.supplies id s }) (rs ++ MinNode id s ∷ [])
  names_one rs h =
      let new : list_any (is_of id) h.named ≡ false = sym (has_named b id h) ∙ passes.new_node in
      let no_arcs : b.arcs ≡ [] = nil_from_length b.arcs (grind (arith, nat_tests, passes.placed)) in
      record {
        named = h.named ++ (id, s) ∷ [];
        name_nodes = named_more h.named id s new b.nodes h.name_nodes node;
        supplies = ap (λ m. insert m id s) h.supplies ∙ sym (map_more h.named id s new);
        records = records_more b.nodes b.declared id s rs h.named b.arcs h.records no_arcs;
      }

-- one more arc
abbrev pub with_arc : MinBegun → ArcView → MinBegun
with_arc begun arc = record begun { arcs = begun.arcs ++ arc ∷ [] }

not_below : (x y : ℤ) → int_lt x y ≡ false → y ≤ℤ x
not_below x y test = grind (arith, ints)

-- an arc that passes the tests joins nodes, has bounds and is no more than declared
module _ (b : MinBegun) (a : ArcView) (passes : Passes (plain_context (count_of b)) (min_arc a)) where
  pub arc_joins : 1 ≤ a.tail → 1 ≤ a.head → JoinsNodes b.nodes a
  arc_joins tail head = ((tail, grind (arith, nat_tests, passes.second_within)), (head, grind (arith, nat_tests, passes.third_within)))

  pub arc_bounds : IsWhole a.cap → IsWhole a.cost → HasBounds a
  arc_bounds cap cost = (not_below a.low (pos 0) passes.low, not_below a.cap a.low passes.cap, cap, cost)

  pub arc_room : length b.arcs < b.declared
  arc_room = grind (arith, nat_tests, passes.room)

-- the state without the supplies that are 0
module _ (b : MinBegun) (law : IsMinBegun b) where
  supply_begun : (id : ℕ) (v : ℤ) → get (without_zeros b.supplies) id ≡ Some v → IsSupply b.nodes (id, v)
  supply_begun id v e =
      let found = get_nonzero b.supplies id v e in
      let named = All-get (IsNamed b.nodes) b.supplies id v law.supplied found.0 in
      (named.0, found.1, named.1)

  none_past : (id : ℕ) → b.nodes + 1 ≤ id → (o : Option ℤ) → get (without_zeros b.supplies) id ≡ o → o ≡ None
  none_past id past None e = refl
  none_past id past (Some v) e = absurd (omega (arith, past, (supply_begun id v e).0.1))

  pub min_law : IsMin (record { nodes = b.nodes; supplies = without_zeros b.supplies; arcs = b.arcs })
  min_law = record {
    nodes_few = law.nodes_few;
    arcs_few = omega (arith, law.no_more, law.arcs_few);
    supplied = All-entries (IsSupply b.nodes) (without_zeros b.supplies) (b.nodes + 1) (λ id past. none_past id past _ refl) supply_begun;
    joined = law.joined;
    bounds = law.bounds;
  }

-- a complete state gives its instance
pub gives_min : (b : MinBegun) → IsMinBegun b → PassesEnd Min (plain_context (count_of b)) → (rs : List LineRecord) → IsMinBegunBy b (records_of rs)
    → GivesMin rs (record { nodes = b.nodes; supplies = without_zeros b.supplies; arcs = b.arcs })
gives_min b law p rs h =
    let full : b.declared ≡ length b.arcs = grind (arith, nat_tests, p.finished, law.no_more) in
    record {
      named = h.named;
      name_nodes = h.name_nodes;
      supplies = ap without_zeros h.supplies ∙ without_zeros-named h.named b.nodes h.name_nodes;
      records = h.records ∙ ap (λ k. min_records b.nodes k h.named b.arcs) full;
      is_min = min_law b law;
    }

-- the laws of states
pub new_law : (nodes declared : ℕ) → nodes ≤ most_nodes → declared ≤ most_count → IsMinBegun (record { nodes = nodes; declared = declared; supplies = empty; arcs = [] })
new_law nodes declared nodes_few arcs_few = record {
  nodes_few = nodes_few;
  arcs_few = arcs_few;
  no_more = omega arith;
  supplied = All-empty (IsNamed nodes);
  joined = All-nil (JoinsNodes nodes);
  bounds = All-nil HasBounds;
}

pub law_with_supply : (b : MinBegun) (id : ℕ) (s : ℤ) → IsMinBegun b → IsNode b.nodes id → IsWhole s → IsMinBegun (record b { supplies = insert b.supplies id s })
law_with_supply b id s law is_node whole = record {
  nodes_few = law.nodes_few;
  arcs_few = law.arcs_few;
  no_more = law.no_more;
  supplied = All-insert (IsNamed b.nodes) b.supplies id s law.supplied (is_node, whole);
  joined = law.joined;
  bounds = law.bounds;
}

pub law_with_arc : (b : MinBegun) (a : ArcView) → IsMinBegun b → JoinsNodes b.nodes a → HasBounds a → length b.arcs < b.declared → IsMinBegun (with_arc b a)
law_with_arc b a law joined bounds room = record {
  nodes_few = law.nodes_few;
  arcs_few = law.arcs_few;
  no_more = omega (arith, length-append b.arcs (a ∷ []));
  supplied = law.supplied;
  joined = All-push (JoinsNodes b.nodes) b.arcs a law.joined joined;
  bounds = All-push HasBounds b.arcs a law.bounds bounds;
}

-- if an arc was pushed, and if not
pub law_after_push : {E : Type 0} (b : MinBegun) (a : ArcView) (now : NetworkValue) (r : Result Unit E) → OnOk r (now ≡ record { nodes = b.nodes; arcs = b.arcs ++ a ∷ [] }) → OnErr r (now ≡ record { nodes = b.nodes; arcs = b.arcs })
    → IsMinBegun b → JoinsNodes b.nodes a → HasBounds a → length b.arcs < b.declared → IsMinBegun (record b { nodes = now.nodes; arcs = now.arcs })
law_after_push b a now (Ok done) pushed same law joined bounds room = subst (λ (n : NetworkValue). IsMinBegun (record b { nodes = n.nodes; arcs = n.arcs })) (sym pushed) (law_with_arc b a law joined bounds room)
law_after_push b a now (Err e) pushed same law joined bounds room = subst (λ (n : NetworkValue). IsMinBegun (record b { nodes = n.nodes; arcs = n.arcs })) (sym same) law

-- if a value was set, and if not
pub law_after_set : {E : Type 0} (b : MinBegun) (id : ℕ) (s : ℤ) (supplies : FinMap nat_cmp ℤ) (r : Result Unit E) → OnOk r (supplies ≡ insert b.supplies id s) → OnErr r (supplies ≡ b.supplies)
    → IsMinBegun b → IsNode b.nodes id → IsWhole s → IsMinBegun (record b { supplies = supplies })
law_after_set b id s supplies (Ok done) set unset law is_node whole = subst (λ (m : FinMap nat_cmp ℤ). IsMinBegun (record b { supplies = m })) (sym set) (law_with_supply b id s law is_node whole)
law_after_set b id s supplies (Err e) set unset law is_node whole = subst (λ (m : FinMap nat_cmp ℤ). IsMinBegun (record b { supplies = m })) (sym unset) law
