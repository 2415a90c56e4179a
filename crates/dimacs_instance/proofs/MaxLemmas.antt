-- One more record of a maximum flow instance while its text is read.
use Rattle.std.proofs.Common.{◌≡◌, ℕ, suc, ◌<◌, ◌≤◌, ◌∷◌, ◌++◌, [], List, Bool, false, length, map, refl, ap, ap₂, sym, ◌∙◌, arith}
use Rattle.std.proofs.{Math.Bool.{or-false}, lemmas.Bool.{lt-ltb, le-ltb}, lemmas.Bool.Decides.{nat_tests}}
use Rattle.std.proofs.{lemmas.List.Folds.{list_any-append}, lemmas.List.Sums.{length-filter}}
use Rattle.std.specs.{Prelude.{ℤ, pos, ◌||◌, nat_lt, nat_le, int_lt}, List.{list_any, filter}}
use Rattle.dimacs_records.specs.{declared.kinds.TextKind.TheVariants.{Max}, declared.order.Context.{Context}}
use Rattle.dimacs_records.specs.{declared.records.End.{End}, declared.records.End.TheVariants.{Source, Sink}}
use Rattle.dimacs_records.specs.{declared.records.Record.{Record}, Conditions.{lacks_end}, Spelling.{kind_of}}
use Rattle.dimacs_records.specs.declared.records.Record.TheVariants.{MaxProblem, MaxNode, MaxArc}
use Rattle.dimacs_records.specs.Earlier.{counted_in, is_counted, names, is_end_node, is_flow_arc, is_max_node}
use Rattle.dimacs_records.specs.Readings.{IsAllowed, IsComplete}
use Rattle.dimacs_records.specs.Tests.{plain_context_after, plain_context_of, end_context_of, context_after}
use Rattle.dimacs_records.proofs.ConditionLemmas.{is_allowed, is_complete}
use Rattle.dimacs_network.specs.declared.network.ArcView.{ArcView}
use Rattle.dimacs_instance.specs.{declared.max.ends.EndLine.{EndLine}, declared.max.ends.EndLines.{EndLines}}
use Rattle.dimacs_instance.specs.{MaxTexts.{max_arc}, declared.max.ends.EndLines.TheVariants.{Neither, One, Both}}
use Rattle.dimacs_instance.specs.MaxReading.{MaxBegun, end_records, max_begun_records, max_node, plain_context, context, end_context, count_of}

none_of_arcs : (test : Record → Bool) → ((a : ArcView) → test (max_arc a) ≡ false) → (arcs : List ArcView) → list_any test (map max_arc arcs) ≡ false
none_of_arcs test none [] = refl
none_of_arcs test none (a ∷ arcs) = rw (none a) (none_of_arcs test none arcs)

none_of_nodes : (test : Record → Bool) → ((e : EndLine) → test (max_node e) ≡ false) → (ends : EndLines) → list_any test (end_records ends) ≡ false
none_of_nodes test none Neither = refl
none_of_nodes test none (One first) = rw (none first) refl
none_of_nodes test none (Both first second) = rw (none first, none second) refl

no_end : (end : End) (r : Record) (tail head : ℕ) (cap : ℤ) → r ≡ MaxArc tail head cap → is_end_node end r ≡ false
no_end Source r tail head cap is = rw is refl
no_end Sink r tail head cap is = rw is refl

no_end_problem : (end : End) (nodes declared : ℕ) → is_end_node end (MaxProblem nodes declared) ≡ false
no_end_problem Source nodes declared = refl
no_end_problem Sink nodes declared = refl

counted_arcs : (arcs : List ArcView) → length (filter is_counted (map max_arc arcs)) ≡ length arcs
counted_arcs [] = refl
counted_arcs (a ∷ arcs) = ap suc (counted_arcs arcs)

no_node_arcs : (arcs : List ArcView) → length (filter is_max_node (map max_arc arcs)) ≡ 0
no_node_arcs [] = refl
no_node_arcs (a ∷ arcs) = no_node_arcs arcs

-- after the problem line, these node lines and these arcs
module _ (nodes declared : ℕ) (ends : EndLines) (arcs : List ArcView) where
  abbrev earlier : List Record
  earlier = max_begun_records (record { nodes = nodes; declared = declared; ends = ends; arcs = arcs })

  --   a property of neither problem lines nor arc lines
  among_nodes : (test : Record → Bool) → test (MaxProblem nodes declared) ≡ false → ((a : ArcView) → test (max_arc a) ≡ false) → list_any test earlier ≡ list_any test (end_records ends)
  among_nodes test no_problem none =
      rw no_problem (list_any-append test (end_records ends) (map max_arc arcs) ∙ (ap (λ b. list_any test (end_records ends) || b) (none_of_arcs test none arcs) ∙ or-false (list_any test (end_records ends))))

  --   a property of neither problem lines nor node lines
  among_arcs : (test : Record → Bool) → test (MaxProblem nodes declared) ≡ false → ((e : EndLine) → test (max_node e) ≡ false) → list_any test earlier ≡ list_any test (map max_arc arcs)
  among_arcs test no_problem none =
      rw no_problem (list_any-append test (end_records ends) (map max_arc arcs) ∙ ap (λ b. b || list_any test (map max_arc arcs)) (none_of_nodes test none ends))

  named : (id : ℕ) → list_any (names id) earlier ≡ list_any (names id) (end_records ends)
  named id = among_nodes (names id) refl (λ a. refl)

  ended : (end : End) → list_any (is_end_node end) earlier ≡ list_any (is_end_node end) (end_records ends)
  ended end = among_nodes (is_end_node end) (no_end_problem end nodes declared) (λ a. no_end end (max_arc a) a.tail a.head a.cap refl)

  counted : counted_in earlier ≡ length arcs
  counted = by_ends ends
    where
      by_ends : (lines : EndLines) → length (filter is_counted (MaxProblem nodes declared ∷ (end_records lines ++ map max_arc arcs))) ≡ length arcs
      by_ends Neither = counted_arcs arcs
      by_ends (One first) = counted_arcs arcs
      by_ends (Both first second) = counted_arcs arcs

  any_flow_arc : list_any is_flow_arc earlier ≡ nat_lt 0 (length arcs)
  any_flow_arc = among_arcs is_flow_arc refl (λ e. refl) ∙ by_arcs arcs
    where
      by_arcs : (xs : List ArcView) → list_any is_flow_arc (map max_arc xs) ≡ nat_lt 0 (length xs)
      by_arcs [] = refl
      by_arcs (a ∷ more) = sym (lt-ltb 0 (suc (length more)) (omega arith))

  pub lacking : lacks_end earlier ≡ lacks_end (end_records ends)
  lacking = ap (λ n. nat_lt n 2) (sym (length-filter is_max_node earlier) ∙ by_ends ends ∙ length-filter is_max_node (end_records ends))
    where
      by_ends : (lines : EndLines) → length (filter is_max_node (MaxProblem nodes declared ∷ (end_records lines ++ map max_arc arcs))) ≡ length (filter is_max_node (end_records lines))
      by_ends Neither = no_node_arcs arcs
      by_ends (One first) = ap suc (no_node_arcs arcs)
      by_ends (Both first second) = ap (λ n. suc (suc n)) (no_node_arcs arcs)

  pub one_more_node : (id : ℕ) (end : End) → arcs ≡ [] → id ≤ nodes → list_any (names id) (end_records ends) ≡ false → list_any (is_end_node end) (end_records ends) ≡ false → IsAllowed earlier (MaxNode id end)
  one_more_node id end none within fresh other =
      is_allowed earlier (MaxNode id end) (rw (any_flow_arc ∙ ap (λ (xs : List ArcView). nat_lt 0 (length xs)) none, le-ltb nodes id within, named id ∙ fresh, ended end ∙ other) refl)

  pub one_more_arc : (t h : ℕ) (cap : ℤ) → t ≤ nodes → h ≤ nodes → lacks_end earlier ≡ false → int_lt cap (pos 0) ≡ false → length arcs < declared → IsAllowed earlier (MaxArc t h cap)
  one_more_arc t h cap tail head ended_twice test room =
      let some : nat_le declared (counted_in earlier) ≡ false = rw counted (grind (arith, nat_tests, room)) in
      is_allowed earlier (MaxArc t h cap) (rw (le-ltb nodes t tail, le-ltb nodes h head, ended_twice, test, some) refl)

  pub all_arcs : lacks_end earlier ≡ false → declared ≤ length arcs → IsComplete Max earlier
  all_arcs ended_twice full =
      let few : nat_lt (counted_in earlier) declared ≡ false = rw counted (le-ltb (length arcs) declared full) in
      is_complete Max earlier (rw (ended_twice, few) refl)

pub first_problem : (n m : ℕ) → IsAllowed [] (MaxProblem n m)
first_problem n m = is_allowed [] (MaxProblem n m) refl

-- what the tests know follows from the records
plain_context_by_records : (b : MaxBegun) → plain_context (count_of b) ≡ plain_context_after (max_begun_records b)
plain_context_by_records b = ap (plain_context_of (plain_context (count_of b)).problem) (sym (counted b.nodes b.declared b.ends b.arcs))

pub end_context_by_records : (b : MaxBegun) → end_context (count_of b) ≡ end_context_of Max (max_begun_records b)
end_context_by_records b = ap₂ (λ (e : Context) t. record e { lacks_end = t }) (plain_context_by_records b) (sym (lacking b.nodes b.declared b.ends b.arcs))

pub context_by_records : (b : MaxBegun) (r : Record) → kind_of r ≡ Max → context (count_of b) r ≡ context_after (max_begun_records b) r
context_by_records b (MaxProblem n m) of_kind = plain_context_by_records b
context_by_records b (MaxNode id end) of_kind =
    rw (any_flow_arc b.nodes b.declared b.ends b.arcs, named b.nodes b.declared b.ends b.arcs id, ended b.nodes b.declared b.ends b.arcs end, counted b.nodes b.declared b.ends b.arcs) refl
context_by_records b (MaxArc t h cap) of_kind = end_context_by_records b
context_by_records b r of_kind = absurd (cc)
