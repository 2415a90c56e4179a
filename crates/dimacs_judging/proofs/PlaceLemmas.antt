-- Putting entries on arcs: in the order of the arcs, and by search.
use Rattle.std.proofs.Common.{◌≡◌, ◌≢◌, inl, inr, ℕ, zero, suc, ◌+◌, ◌<◌, ◌≤◌, Bool, true, false, cond, List, [], ◌∷◌, ◌++◌, length, take, get_or, set, replicate, count_by, ℤ, pos, Option, None, Some, refl, sym, ap, ◌∙◌, arith}
use Rattle.std.proofs.{lemmas.Bool.{cases_Bool, cases_lt}, lemmas.Option.{slice_get-get_or}}
use Rattle.std.proofs.lemmas.List.{length-replicate, take-take, get_or-replicate, get_or_past, get_or-set_same, get_or-set_other}
use Rattle.std.proofs.lemmas.List.Sums.{count_by-le-length, count_by_more_yes, count_by_more_no, sum_by-take-le}
use Rattle.std.specs.Prelude.{is_some}
use Rattle.dimacs_network.specs.{declared.network.ArcView.{ArcView}, Arcs.{joins, IsKthBetween, no_arc, arc_at}}
use Rattle.dimacs_claims.specs.declared.place.Entry.{Entry}
use Rattle.dimacs_records.specs.{declared.reasons.Reason.{Reason}, declared.reasons.Reason.TheVariants.{ArcTwice}}
use Rattle.dimacs_judging.proofs.{Claims.{claims_carried}, SupportLemmas.{ends_joined, counted_before, counted_in_all}}
use Rattle.dimacs_judging.proofs.EntryLemmas.{joined_at, one_kth, between_ends, counted_more, counted_same, none_claimed, between_own, claimed_more, clear_more, first_still}
use Rattle.dimacs_judging.specs.{Claims.{is_between, Carries, EntryFails}, declared.verdict.Where.{Where}}
use Rattle.dimacs_judging.specs.Places.{PlacesValue, HavePlaced, Hold, placed_between, counted_or}
use Rattle.dimacs_judging.specs.inside.Places.{left_order}

-- ---- counts
pub counted_some : (m n : ℕ) → 0 < m → counted_or m n ≡ m
counted_some zero n some = absurd (omega (arith, some))
counted_some (suc m) n some = refl

zero_at : (n k : ℕ) → ◌≡◌ {A = ℕ} (get_or (replicate n 0) k 0) 0
zero_at n k = elim (cases_lt k n) [
  | inl inside ↦ get_or-replicate n k 0 0 inside
  | inr past ↦ get_or_past (replicate n 0) k 0 (omega (arith, past, length-replicate {A = ℕ} n 0))
]

pub fewer_below : (p : ArcView → Bool) (arcs : List ArcView) (m n : ℕ) → m ≤ n → count_by p (take m arcs) ≤ count_by p (take n arcs)
fewer_below p arcs m n before = rw (take-take m n arcs before) at (sum_by-take-le (λ b. cond (p b) 1 0) (take n arcs) m)

pub no_more_below : (p : ArcView → Bool) (arcs : List ArcView) (n : ℕ) → (count_by p (take n arcs) ≤ count_by p arcs) × (count_by p (take n arcs) ≤ length arcs)
no_more_below p arcs n =
    let all = sum_by-take-le (λ b. cond (p b) 1 0) arcs n in
    (all, omega (arith, all, count_by-le-length p arcs))

-- before an index after the k-th arc between two nodes there are more than k such arcs
pub one_more_below : (arcs : List ArcView) (tail head k i n : ℕ) → IsKthBetween arcs tail head k (Some i) → i < n → k + 1 ≤ count_by (joins tail head) (take n arcs)
one_more_below arcs tail head k i n found after =
    let more = counted_before (joins tail head) arcs i n (arc_at arcs i) (slice_get-get_or arcs i no_arc found.0) (joined_at arcs tail head k i found) after in
    omega (arith, more, found.2)

module _ (arcs : List ArcView) (tail head first : ℕ) (found : IsKthBetween arcs tail head 0 (Some first)) where
  -- before the first arc between two nodes there is none, after it there is one
  pub none_below : (n : ℕ) → n ≤ first → count_by (joins tail head) (take n arcs) ≡ 0
  none_below n before = omega (arith, found.2, fewer_below (joins tail head) arcs n first before)

  pub some_below : (n : ℕ) → first < n → 1 ≤ count_by (joins tail head) (take n arcs)
  some_below n after = one_more_below arcs tail head 0 first n found after

-- ---- entries that fail, and entries that don't
module _ (arcs : List ArcView) (before : List Entry) (e : Entry) where
  pub found_among : (k i : ℕ) → IsKthBetween arcs e.tail e.head k (Some i) → k < count_by (joins e.tail e.head) arcs
  found_among k i found =
      let more = counted_in_all (joins e.tail e.head) arcs i (arc_at arcs i) (slice_get-get_or arcs i no_arc found.0) (joined_at arcs e.tail e.head k i found) in
      omega (arith, more, found.2)

  twice_fails : (first : ℕ) → IsKthBetween arcs e.tail e.head 0 (Some first) → IsKthBetween arcs e.tail e.head (count_by (is_between e.tail e.head) before) None → EntryFails arcs before e ArcTwice
  twice_fails first found none = let some = found_among 0 first found in inr (refl, omega (arith, some), none)

  found_passes : (i : ℕ) → IsKthBetween arcs e.tail e.head (count_by (is_between e.tail e.head) before) (Some i) → (reason : Reason) → ¬ EntryFails arcs before e reason
  found_passes i found reason fails =
      let fewer = found_among (count_by (is_between e.tail e.head) before) i found in
      elim fails [ inl u ↦ u.1 (omega (arith, fewer)) | inr t ↦ absurd (omega (arith, fewer, t.2)) ]

-- ---- no entry
pub none_placed : (arcs : List ArcView) (n : ℕ) (flow : List ℤ) (counts : List ℕ) → n ≡ length arcs → flow ≡ replicate n (pos 0) → counts ≡ []
    → HavePlaced (record { arcs = arcs; flow = flow; counts = counts; in_order = 0; out_of_order = false; searched = false; refusal = None }) []
none_placed arcs n flow counts one_each zero_flow none = record {
  clear = λ k place reason f. absurd (omega (arith, f.0));
  amounts = zero_flow ∙ none_claimed arcs n one_each;
  counted = λ tail head first found. rw none refl;
  uncounted = λ e k. rw none refl;
  ordered = λ e tail head. refl;
}

-- ---- a refusal, or none
pub no_refusal : (p : PlacesValue) (entries : List Entry) (refusal : Option (Where × Reason)) → is_some refusal ≡ false → Hold p entries refusal → HavePlaced p entries
no_refusal p entries None none held = held
no_refusal p entries (Some refusal) none held = absurd (cc)

pub refused_still : (p : PlacesValue) (before : List Entry) (e : Entry) (refusal : Option (Where × Reason)) → is_some refusal ≡ true → Hold p before refusal → Hold p (before ++ e ∷ []) refusal
refused_still p before e (Some refusal) some held = first_still p.arcs before e refusal.0 refusal.1 held
refused_still p before e None some held = absurd (cc)

pub placed_carry : (p : PlacesValue) (entries : List Entry) (refusal : Option (Where × Reason)) → refusal ≡ None → Hold p entries refusal → Carries p.arcs entries p.flow
placed_carry p entries None none held = claims_carried p.arcs entries held.clear p.flow held.amounts
placed_carry p entries (Some refusal) none held = absurd (cc)

-- no entry has the ends of an arc that isn't counted and whose first comes after those in order
pub none_placed_between : (p : PlacesValue) (tail head first : ℕ) → IsKthBetween p.arcs tail head 0 (Some first) → p.in_order ≤ first → get_or p.counts first 0 ≡ 0 → placed_between p tail head first ≡ 0
none_placed_between p tail head first found after uncounted = rw (uncounted, none_below p.arcs tail head first found p.in_order after) refl

-- ---- one more entry
module _ (p : PlacesValue) (before : List Entry) (e : Entry) (placed : HavePlaced p before) where
  -- from now on entries may come in any order
  counted_left : (tail head first : ℕ) → IsKthBetween p.arcs tail head 0 (Some first) → placed_between (left_order p) tail head first ≡ count_by (is_between tail head) before
  counted_left tail head first found = elim (cases_Bool p.out_of_order) [
    | inl out ↦ rw out (placed.counted tail head first found)
    | inr still ↦ rw (still, zero_at (length p.arcs) first) (rw (placed.uncounted still first) at (placed.counted tail head first found))
  ]

  pub placed_in_any_order : HavePlaced (left_order p) before
  placed_in_any_order = record {
    clear = placed.clear;
    amounts = placed.amounts;
    counted = counted_left;
    uncounted = λ e. absurd (cc);
    ordered = λ e. absurd (cc);
  }

  pub placed_searched : HavePlaced (record p { searched = true }) before
  placed_searched = record {
    clear = placed.clear;
    amounts = placed.amounts;
    counted = placed.counted;
    uncounted = placed.uncounted;
    ordered = placed.ordered;
  }

  module _ (in_order : p.out_of_order ≡ false) (inside : p.in_order < length p.arcs) (joined : joins e.tail e.head (arc_at p.arcs p.in_order) ≡ true) where
    next_found : IsKthBetween p.arcs e.tail e.head (count_by (is_between e.tail e.head) before) (Some p.in_order)
    next_found = (inside, rw (slice_get-get_or p.arcs p.in_order no_arc inside) joined, placed.ordered in_order e.tail e.head)

    next_ordered : (tail head : ℕ) → count_by (joins tail head) (take (p.in_order + 1) p.arcs) ≡ count_by (is_between tail head) (before ++ e ∷ [])
    next_ordered tail head =
        let ends = ends_joined e.tail e.head (arc_at p.arcs p.in_order) joined in
        let same : joins tail head (arc_at p.arcs p.in_order) ≡ is_between tail head e = rw (ends.0, ends.1) refl in
        let so_far = placed.ordered in_order tail head in
        elim (cases_Bool (is_between tail head e)) [
          | inl is ↦ omega (arith, so_far, count_by_more_yes (joins tail head) p.arcs p.in_order no_arc inside (same ∙ is), counted_more tail head before e is)
          | inr off ↦ omega (arith, so_far, count_by_more_no (joins tail head) p.arcs p.in_order no_arc inside (same ∙ off), counted_same tail head before e off)
        ]

    pub next_placed : HavePlaced (record p { flow = set p.flow p.in_order e.flow; in_order = p.in_order + 1 }) (before ++ e ∷ [])
    next_placed = record {
      clear = clear_more p.arcs before e placed.clear (found_passes p.arcs before e p.in_order next_found);
      amounts = ap (λ x. set x p.in_order e.flow) placed.amounts ∙ sym (claimed_more p.arcs before e p.in_order next_found);
      counted = λ tail head first found. rw (placed.uncounted in_order first) (next_ordered tail head);
      uncounted = placed.uncounted;
      ordered = λ still tail head. next_ordered tail head;
    }

  -- no arc is left for the entry
  pub none_left : (first k : ℕ) → IsKthBetween p.arcs e.tail e.head 0 (Some first) → k ≡ placed_between p e.tail e.head first → IsKthBetween p.arcs e.tail e.head k None → EntryFails p.arcs before e ArcTwice
  none_left first k found_first counted none = twice_fails p.arcs before e first found_first (rw (counted ∙ placed.counted e.tail e.head first found_first) at none)

  module _ (searched : p.out_of_order ≡ true) (first k i : ℕ) (found_first : IsKthBetween p.arcs e.tail e.head 0 (Some first)) (counted : k ≡ placed_between p e.tail e.head first) (found : IsKthBetween p.arcs e.tail e.head k (Some i)) (room : first < length p.counts) where
    count_is : k ≡ count_by (is_between e.tail e.head) before
    count_is = counted ∙ placed.counted e.tail e.head first found_first

    own_found : IsKthBetween p.arcs e.tail e.head (count_by (is_between e.tail e.head) before) (Some i)
    own_found = rw count_is at found

    counted_now : (tail head f : ℕ) → IsKthBetween p.arcs tail head 0 (Some f)
        → counted_or (get_or (set p.counts first (k + 1)) f 0) (count_by (joins tail head) (take p.in_order p.arcs)) ≡ count_by (is_between tail head) (before ++ e ∷ [])
    counted_now tail head f there = elim (cases_Bool (is_between tail head e)) [
      | inl is ↦
          (let ends = between_ends tail head e is in
          let same : f ≡ first = one_kth p.arcs e.tail e.head 0 f first (rw (ends.0, ends.1) there) found_first in
          rw (same, get_or-set_same p.counts first (k + 1) 0 room, counted_some (k + 1) (count_by (joins tail head) (take p.in_order p.arcs)) (omega arith))
          (omega (arith, counted_more tail head before e is, ap (λ t. count_by (is_between t head) before) ends.0, ap (λ h. count_by (is_between e.tail h) before) ends.1, count_is)))
      | inr off ↦
          (let apart : f ≢ first = λ same. first_of_others tail head f there off same in
          rw (get_or-set_other p.counts first f (k + 1) 0 apart) (placed.counted tail head f there ∙ sym (counted_same tail head before e off)))
    ]
      where
        first_of_others : (tail head f : ℕ) → IsKthBetween p.arcs tail head 0 (Some f) → is_between tail head e ≡ false → f ≢ first
        first_of_others tail head f there off same =
            let ends = ends_joined tail head (arc_at p.arcs f) (joined_at p.arcs tail head 0 f there) in
            let own = ends_joined e.tail e.head (arc_at p.arcs first) (joined_at p.arcs e.tail e.head 0 first found_first) in
            let tails : e.tail ≡ tail = sym own.0 ∙ (ap (λ j. (arc_at p.arcs j).tail) (sym same) ∙ ends.0) in
            let heads : e.head ≡ head = sym own.1 ∙ (ap (λ j. (arc_at p.arcs j).head) (sym same) ∙ ends.1) in
            let is : is_between tail head e ≡ true = rw (← tails, ← heads) (between_own e) in
            absurd (let both = sym is ∙ off in cc)

    pub found_placed : HavePlaced (record p { flow = set p.flow i e.flow; counts = set p.counts first (k + 1) }) (before ++ e ∷ [])
    found_placed = record {
      clear = clear_more p.arcs before e placed.clear (found_passes p.arcs before e i own_found);
      amounts = ap (λ x. set x i e.flow) placed.amounts ∙ sym (claimed_more p.arcs before e i own_found);
      counted = counted_now;
      uncounted = λ still. absurd (let both = sym searched ∙ still in cc);
      ordered = λ still. absurd (let both = sym searched ∙ still in cc);
    }
