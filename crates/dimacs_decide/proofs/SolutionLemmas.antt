-- Entries for every arc in order carry their flows.
use Rattle.std.proofs.Common.{inl, inr, ◌≡◌, ℕ, suc, zero, ◌+◌, ◌<◌, ◌==◌, Bool, true, pos, List, [], ◌∷◌, ◌++◌, length, map, take, get_or, count_by, refl, sym, ap, ◌∙◌, arith, subst, eq-eqb, below_more}
use Rattle.std.proofs.{Math.ListN.{get_or-map}, Math.Seq.{get_or-append_seam}, lemmas.Bool.{cases_Bool, and_from}}
use Rattle.std.proofs.{lemmas.List.{get_or_append_left, length-map}, lemmas.List.FromFn.{fill_by_all}}
use Rattle.std.specs.List.{filter}
use Rattle.dimacs_records.proofs.CountLemmas.{count_by-cons, count_yes, count_no}
use Rattle.dimacs_claims.specs.declared.place.Entry.{Entry}
use Rattle.dimacs_network.specs.{declared.network.ArcView.{ArcView}, Arcs.{joins, no_arc, arc_at}}
use Rattle.dimacs_judging.specs.{Claims.{is_between, entry_at, no_entry, claimed_of, HasArc, Carries}, Rows.{amount_at}}
use Rattle.dimacs_decide.specs.Entries.{IsEntryOf, AreEntriesOf}

-- ---- one more entry, for the next arc
pub entries_more : (arcs : List ArcView) (es : List Entry) (e : Entry) (i : ℕ) → length es ≡ i → ((k : ℕ) → k < i → IsEntryOf (arc_at arcs k) (k + 2) (entry_at es k)) → IsEntryOf (arc_at arcs i) (i + 2) e → (k : ℕ) → k < i + 1 → IsEntryOf (arc_at arcs k) (k + 2) (entry_at (es ++ e ∷ []) k)
entries_more arcs es e i so_many before last =
    let at : get_or (es ++ e ∷ []) i no_entry ≡ e = rw (← so_many) (get_or-append_seam es e [] no_entry) in
    below_more
    (λ k. IsEntryOf (arc_at arcs k) (k + 2) (entry_at (es ++ e ∷ []) k))
    i
    (λ k below. subst (λ (x : Entry). IsEntryOf (arc_at arcs k) (k + 2) x) (sym (get_or_append_left es (e ∷ []) no_entry k (omega arith))) (before k below))
    (subst (λ (x : Entry). IsEntryOf (arc_at arcs i) (i + 2) x) (sym at) last)

-- ---- as many of the first entries as of the first arcs have given ends
abbrev HasEnds : ArcView → Entry → Type 0
HasEnds a e = (e.tail ≡ a.tail) × (e.head ≡ a.head)

same_count : (tail head : ℕ) (arcs : List ArcView) (es : List Entry) (k : ℕ) → length es ≡ length arcs → ((j : ℕ) → j < length arcs → HasEnds (arc_at arcs j) (entry_at es j))
    → count_by (is_between tail head) (take k es) ≡ count_by (joins tail head) (take k arcs)
same_count tail head arcs es zero same ends = refl
same_count tail head [] [] (suc k) same ends = refl
same_count tail head [] (e ∷ es) (suc k) same ends = absurd (omega (arith, same))
same_count tail head (a ∷ arcs) [] (suc k) same ends = absurd (omega (arith, same))
same_count tail head (a ∷ arcs) (e ∷ es) (suc k) same ends =
    let alike : is_between tail head e ≡ joins tail head a = rw ((ends 0 (omega arith)).0, (ends 0 (omega arith)).1) refl in
    count_by-cons (is_between tail head) e (take k es)
    ∙ (rw (alike, same_count tail head arcs es k (omega (arith, same)) (λ j h. ends (suc j) (omega arith))) refl ∙ sym (count_by-cons (joins tail head) a (take k arcs)))

-- ---- an item that passes a test, found by its count
fewer_before : {A : Type 0} (p : A → Bool) (xs : List A) (k : ℕ) (d : A) → k < length xs → p (get_or xs k d) ≡ true → count_by p (take k xs) < count_by p xs
fewer_before p [] k d h is = absurd (omega arith)
fewer_before p (x ∷ xs) zero d h is = omega (arith, count_yes p x xs is)
fewer_before p (x ∷ xs) (suc k) d h is = omega (arith, count_by-cons p x xs, count_by-cons p x (take k xs), fewer_before p xs k d (omega arith) is)

kth_passing : {A : Type 0} (p : A → Bool) (xs : List A) (k : ℕ) (d : A) → k < length xs → p (get_or xs k d) ≡ true → get_or (filter p xs) (count_by p (take k xs)) d ≡ get_or xs k d
kth_passing p [] k d h is = absurd (omega arith)
kth_passing p (x ∷ xs) zero d h is = rw is refl
kth_passing p (x ∷ xs) (suc k) d h is =
    let rest = kth_passing p xs k d (omega arith) is in
    let n = count_by p (take k xs) in
    elim (cases_Bool (p x)) [
      | inl passes ↦ let e : count_by p (x ∷ take k xs) ≡ suc n = omega (arith, count_yes p x (take k xs) passes) in rw (e, passes) rest
      | inr fails ↦ let e : count_by p (x ∷ take k xs) ≡ n = count_no p x (take k xs) fails in rw (e, fails) rest
    ]

-- ---- each entry belongs to its arc
joins_own : (a : ArcView) → joins a.tail a.head a ≡ true
joins_own a = and_from (a.tail == a.tail) (a.head == a.head) (eq-eqb a.tail a.tail refl) (eq-eqb a.head a.head refl)

module _ (arcs : List ArcView) (es : List Entry) (all : AreEntriesOf arcs es) where
  ends : (k : ℕ) → k < length arcs → HasEnds (arc_at arcs k) (entry_at es k)
  ends k inside = ((all.in_order k inside).tail_is, (all.in_order k inside).head_is)

  before : (k : ℕ) → k < length arcs → count_by (is_between (arc_at arcs k).tail (arc_at arcs k).head) (take k es) ≡ count_by (joins (arc_at arcs k).tail (arc_at arcs k).head) (take k arcs)
  before k inside = same_count (arc_at arcs k).tail (arc_at arcs k).head arcs es k all.one_each ends

  has_arc : (k : ℕ) → k < length arcs → HasArc arcs (take k es) (entry_at es k)
  has_arc k inside =
      let a = arc_at arcs k in
      rw ((ends k inside).0, (ends k inside).1) (omega (arith, before k inside, fewer_before (joins a.tail a.head) arcs k no_arc inside (joins_own a)))

  claims : (k : ℕ) → k < length arcs → amount_at (map (λ (e : Entry). e.flow) es) k ≡ claimed_of arcs es k
  claims k inside =
      let a = arc_at arcs k in
      let own : is_between a.tail a.head (entry_at es k) ≡ true = rw ((ends k inside).0, (ends k inside).1) (joins_own a) in
      let found = kth_passing (is_between a.tail a.head) es k no_entry (omega (arith, all.one_each, inside)) own in
      get_or-map (λ (e : Entry). e.flow) es k no_entry ∙ sym (ap (λ (e : Entry). e.flow) (rw (before k inside) at found))

  pub carried : Carries arcs es (map (λ (e : Entry). e.flow) es)
  carried = record {
    each_has_arc = λ k inside. has_arc k (omega (arith, inside, all.one_each));
    amounts = fill_by_all (claimed_of arcs es) (map (λ (e : Entry). e.flow) es) (length arcs) (pos 0) (length-map es (λ (e : Entry). e.flow) ∙ all.one_each) (λ k inside. claims k inside);
  }
