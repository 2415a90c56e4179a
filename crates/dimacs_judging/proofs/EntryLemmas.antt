-- One more entry: the claimed flow, and the tests.
use Rattle.std.proofs.Common.{◌≡◌, ◌≢◌, inl, inr, ℕ, ◌+◌, ◌<◌, true, false, ◌==◌, List, [], ◌∷◌, ◌++◌, length, take, get_or, set, replicate, count_by, ℤ, pos, Some, refl, sym, ap, ap₂, ◌∙◌, arith}
use Rattle.std.proofs.lemmas.Bool.{cases_Bool, cases_eq, cases_lt, cases_order, and_from, and_parts, eqb-true, eq-eqb}
use Rattle.std.proofs.{lemmas.Option.{slice_get-get_or}, lemmas.List.Elements.{filter-append}}
use Rattle.std.proofs.lemmas.List.{append-nil, length-set, length-replicate, length_push, take-append-le, take_all, get_or-replicate, get_or_append_left, get_or_past, get_or_push, get_or-set_same, get_or-set_other}
use Rattle.std.proofs.{lemmas.List.FromFn.{fill_by_all, get_or-map-range_with_len}, lemmas.List.Sums.{length-filter}}
use Rattle.dimacs_network.specs.{declared.network.ArcView.{ArcView}, Arcs.{joins, IsKthBetween, no_arc, arc_at}}
use Rattle.dimacs_claims.specs.declared.place.Entry.{Entry}
use Rattle.dimacs_records.specs.declared.reasons.Reason.{Reason}
use Rattle.dimacs_judging.specs.{declared.verdict.Where.{Where}, declared.verdict.Where.TheVariants.{Solution}}
use Rattle.dimacs_judging.specs.Claims.{is_between, no_entry, entry_at, entries_between, parallels_before, claimed_of, claimed_flow, EntryFails, entry_row}
use Rattle.dimacs_judging.specs.Tests.{Clear, FirstOfRow}
use Rattle.dimacs_judging.proofs.{Claims.{length-claimed_flow}, SupportLemmas.{ends_joined, counted_before}}
use Rattle.dimacs_records.proofs.CountLemmas.{count_by-append, count_yes, count_no}

-- ---- ends
pub between_ends : (tail head : ℕ) (e : Entry) → is_between tail head e ≡ true → (e.tail ≡ tail) × (e.head ≡ head)
between_ends tail head e is = let both = and_parts (e.tail == tail) (e.head == head) is in (eqb-true e.tail tail both.0, eqb-true e.head head both.1)

pub between_own : (e : Entry) → is_between e.tail e.head e ≡ true
between_own e = and_from (e.tail == e.tail) (e.head == e.head) (eq-eqb e.tail e.tail refl) (eq-eqb e.head e.head refl)

-- ---- the k-th arc between two nodes
module _ (arcs : List ArcView) (tail head k : ℕ) where
  pub joined_at : (i : ℕ) → IsKthBetween arcs tail head k (Some i) → joins tail head (arc_at arcs i) ≡ true
  joined_at i found = rw (slice_get-get_or arcs i no_arc found.0) at found.1

  not_before : (i j : ℕ) → IsKthBetween arcs tail head k (Some i) → IsKthBetween arcs tail head k (Some j) → ¬ (i < j)
  not_before i j found other before =
      let more = counted_before (joins tail head) arcs i j (arc_at arcs i) (slice_get-get_or arcs i no_arc found.0) (joined_at i found) before in
      omega (arith, more, found.2, other.2)

  pub one_kth : (i j : ℕ) → IsKthBetween arcs tail head k (Some i) → IsKthBetween arcs tail head k (Some j) → i ≡ j
  one_kth i j found other = elim (cases_order i j) [
    | inl same ↦ same
    | inr (inl before) ↦ absurd (not_before i j found other before)
    | inr (inr after) ↦ absurd (not_before j i other found after)
  ]

-- ---- the entries between two nodes
module _ (tail head : ℕ) (before : List Entry) (e : Entry) where
  more_between : is_between tail head e ≡ true → entries_between (before ++ e ∷ []) tail head ≡ entries_between before tail head ++ e ∷ []
  more_between is = filter-append (is_between tail head) before (e ∷ []) ∙ rw is refl

  same_between : is_between tail head e ≡ false → entries_between (before ++ e ∷ []) tail head ≡ entries_between before tail head
  same_between off = filter-append (is_between tail head) before (e ∷ []) ∙ rw off (append-nil (entries_between before tail head))

  pub counted_more : is_between tail head e ≡ true → count_by (is_between tail head) (before ++ e ∷ []) ≡ count_by (is_between tail head) before + 1
  counted_more is = omega (arith, count_by-append (is_between tail head) before (e ∷ []), count_yes (is_between tail head) e [] is)

  pub counted_same : is_between tail head e ≡ false → count_by (is_between tail head) (before ++ e ∷ []) ≡ count_by (is_between tail head) before
  counted_same off = omega (arith, count_by-append (is_between tail head) before (e ∷ []), count_no (is_between tail head) e [] off)

-- ---- claimed amounts
abbrev flow_at : List Entry → ℕ → ℤ
flow_at entries k = (get_or entries k no_entry).flow

pub none_claimed : (arcs : List ArcView) (n : ℕ) → n ≡ length arcs → replicate n (pos 0) ≡ claimed_flow arcs []
none_claimed arcs n one_each =
    rw one_each (fill_by_all (claimed_of arcs []) (replicate (length arcs) (pos 0)) (length arcs) (pos 0) (length-replicate (length arcs) (pos 0)) (λ k inside. get_or-replicate (length arcs) k (pos 0) (pos 0) inside))

-- an entry after others, and the arc to which it belongs
module _ (arcs : List ArcView) (before : List Entry) (e : Entry) (i : ℕ) (found : IsKthBetween arcs e.tail e.head (count_by (is_between e.tail e.head) before) (Some i)) where
  own_flow : claimed_of arcs (before ++ e ∷ []) i ≡ e.flow
  own_flow =
      let ends = ends_joined e.tail e.head (arc_at arcs i) (joined_at arcs e.tail e.head (count_by (is_between e.tail e.head) before) i found) in
      let all = before ++ e ∷ [] in
      let k = count_by (is_between e.tail e.head) before in
      ap₂ (λ t h. flow_at (entries_between all t h) (count_by (joins t h) (take i arcs))) ends.0 ends.1
      ∙ (ap (λ n. flow_at (entries_between all e.tail e.head) n) found.2
      ∙ (ap (λ es. flow_at es k) (more_between e.tail e.head before e (between_own e))
      ∙ ap (λ (b : Entry). b.flow) (get_or_push (entries_between before e.tail e.head) e no_entry k (length-filter (is_between e.tail e.head) before))))

  -- the longer list has the same flows elsewhere
  elsewhere : (entries : List Entry) (k : ℕ) → k ≢ length entries → flow_at (entries ++ e ∷ []) k ≡ flow_at entries k
  elsewhere entries k other = elim (cases_order k (length entries)) [
    | inl same ↦ absurd (other same)
    | inr (inl inside) ↦ ap (λ (b : Entry). b.flow) (get_or_append_left entries (e ∷ []) no_entry k inside)
    | inr (inr past) ↦ ap (λ (b : Entry). b.flow) (get_or_past (entries ++ e ∷ []) k no_entry (omega (arith, past, length_push entries e)) ∙ sym (get_or_past entries k no_entry (omega (arith, past))))
  ]

  other_flow : (j : ℕ) → j < length arcs → j ≢ i → claimed_of arcs (before ++ e ∷ []) j ≡ claimed_of arcs before j
  other_flow j inside other =
      let a = arc_at arcs j in
      elim (cases_Bool (is_between a.tail a.head e)) [
        | inl is ↦
            (let ends = between_ends a.tail a.head e is in
            let apart : parallels_before arcs j ≢ length (entries_between before a.tail a.head) = λ same. other (one_kth arcs e.tail e.head (count_by (is_between e.tail e.head) before) j i (parallel j inside ends same) found) in
            rw (claimed_of, more_between a.tail a.head before e is) (elsewhere (entries_between before a.tail a.head) (parallels_before arcs j) apart))
        | inr off ↦ rw (claimed_of, same_between a.tail a.head before e off) refl
      ]
    where
      parallel : (j : ℕ) → j < length arcs → (e.tail ≡ (arc_at arcs j).tail) × (e.head ≡ (arc_at arcs j).head) → parallels_before arcs j ≡ length (entries_between before (arc_at arcs j).tail (arc_at arcs j).head)
          → IsKthBetween arcs e.tail e.head (count_by (is_between e.tail e.head) before) (Some j)
      parallel j inside ends same =
          rw (ends.0, ends.1) (
            inside,
            rw (slice_get-get_or arcs j no_arc inside) (and_from ((arc_at arcs j).tail == (arc_at arcs j).tail) ((arc_at arcs j).head == (arc_at arcs j).head) (eq-eqb (arc_at arcs j).tail (arc_at arcs j).tail refl) (eq-eqb (arc_at arcs j).head (arc_at arcs j).head refl)),
            same ∙ length-filter (is_between (arc_at arcs j).tail (arc_at arcs j).head) before,
          )

  -- the entry's flow is put on its arc, and nothing else changes
  pub claimed_more : claimed_flow arcs (before ++ e ∷ []) ≡ set (claimed_flow arcs before) i e.flow
  claimed_more = sym (fill_by_all (claimed_of arcs (before ++ e ∷ [])) (set (claimed_flow arcs before) i e.flow) (length arcs) (pos 0) (length-set (claimed_flow arcs before) i e.flow ∙ length-claimed_flow arcs before) each)
    where
      each : (k : ℕ) → k < length arcs → get_or (set (claimed_flow arcs before) i e.flow) k (pos 0) ≡ claimed_of arcs (before ++ e ∷ []) k
      each k inside = elim (cases_eq k i) [
        | inl same ↦ rw same (get_or-set_same (claimed_flow arcs before) i e.flow (pos 0) (omega (arith, length-claimed_flow arcs before, found.0)) ∙ sym own_flow)
        | inr other ↦ get_or-set_other (claimed_flow arcs before) i k e.flow (pos 0) other ∙ (get_or-map-range_with_len (claimed_of arcs before) 0 (length arcs) k k (pos 0) inside (omega arith) ∙ sym (other_flow k inside other))
      ]

-- ---- the tests of the entries
module _ (arcs : List ArcView) (before : List Entry) (e : Entry) where
  entry_before : (k : ℕ) → k < length before → entry_at (before ++ e ∷ []) k ≡ entry_at before k
  entry_before k inside = get_or_append_left before (e ∷ []) no_entry k inside

  last_entry : entry_at (before ++ e ∷ []) (length before) ≡ e
  last_entry = get_or_push before e no_entry (length before) refl

  all_before : take (length before) (before ++ e ∷ []) ≡ before
  all_before = take-append-le (length before) before (e ∷ []) (omega arith) ∙ take_all (length before) before (omega arith)

  row_before : (k : ℕ) (place : Where) (reason : Reason) → k < length before → entry_row arcs (before ++ e ∷ []) k place reason → entry_row arcs before k place reason
  row_before k place reason inside f =
      (inside, f.1 ∙ ap (λ (b : Entry). Solution b.line 0) (entry_before k inside), rw (entry_before k inside, take-append-le k before (e ∷ []) (omega (arith, inside))) at f.2)

  row_after : (k : ℕ) (place : Where) (reason : Reason) → entry_row arcs before k place reason → entry_row arcs (before ++ e ∷ []) k place reason
  row_after k place reason f =
      (omega (arith, f.0, length_push before e), f.1 ∙ ap (λ (b : Entry). Solution b.line 0) (sym (entry_before k f.0)), rw (entry_before k f.0, take-append-le k before (e ∷ []) (omega (arith, f.0))) f.2)

  pub clear_more : Clear (entry_row arcs before) → ((reason : Reason) → ¬ EntryFails arcs before e reason) → Clear (entry_row arcs (before ++ e ∷ []))
  clear_more clear passes k place reason f = elim (cases_lt k (length before)) [
    | inl inside ↦ clear k place reason (row_before k place reason inside f)
    | inr last ↦
        (let here : k ≡ length before = omega (arith, last, f.0, length_push before e) in
        passes reason (rw (here, last_entry, all_before) at f.2))
  ]

  pub first_still : (place : Where) (reason : Reason) → FirstOfRow (entry_row arcs before) place reason → FirstOfRow (entry_row arcs (before ++ e ∷ [])) place reason
  first_still place reason first = record {
    number = first.number;
    fails = row_after first.number place reason first.fails;
    earlier = λ k below at why f. first.earlier k below at why (row_before k at why (omega (arith, below, first.fails.0)) f);
  }

  pub first_new : (reason : Reason) → Clear (entry_row arcs before) → EntryFails arcs before e reason → FirstOfRow (entry_row arcs (before ++ e ∷ [])) (Solution e.line 0) reason
  first_new reason clear fails = record {
    number = length before;
    fails = (omega (arith, length_push before e), rw last_entry refl, rw (last_entry, all_before) fails);
    earlier = λ k below at why f. clear k at why (row_before k at why below f);
  }
