-- The first arc between two nodes.
use Rattle.std.proofs.Common.{◌≡◌, ◌⊎◌, inl, inr, ℕ, zero, suc, ◌+◌, ◌<◌, ◌≤◌, ◌==◌, true, cond, List, length, take, slice_get, count_by, Some, None, eqb-true, refl, ◌∙◌, arith}
use Rattle.std.proofs.{lemmas.Bool.{and_parts, cases_Bool, cases_order}, lemmas.List.{take_all, take-take}}
use Rattle.std.proofs.lemmas.Option.{get_or_from_slice_get, slice_get-get_or, slice_get_within}
use Rattle.std.proofs.lemmas.List.Sums.{count_by_more_no, count_by_more_yes, sum_by-take-le}
use Rattle.dimacs_claims.specs.declared.place.Entry.{Entry}
use Rattle.dimacs_network.specs.{declared.network.ArcView.{ArcView}, Arcs.{joins, IsKthBetween, arc_at, no_arc}}
use Rattle.dimacs_network.proofs.ArcLemmas.{joins_ends}
use Rattle.dimacs_judging.specs.Claims.{is_between}
use Rattle.dimacs_solve.specs.{inside.Raised.{AreParallel}, inside.Rests.{IsFirstParallel}}

pub ends_of : (tail head : ℕ) (a : ArcView) → joins tail head a ≡ true → (a.tail ≡ tail) × (a.head ≡ head)
ends_of tail head a is = let both = and_parts (a.tail == tail) (a.head == head) is in (eqb-true a.tail tail both.0, eqb-true a.head head both.1)

module _ (arcs : List ArcView) (tail head : ℕ) where
  pub kth_joins : (k f : ℕ) → IsKthBetween arcs tail head k (Some f) → joins tail head (arc_at arcs f) ≡ true
  kth_joins k f found = rw (slice_get-get_or arcs f no_arc found.0) at found.1

  pub first_ends : (f : ℕ) → IsKthBetween arcs tail head 0 (Some f) → ((arc_at arcs f).tail ≡ tail) × ((arc_at arcs f).head ≡ head)
  first_ends f found = ends_of tail head (arc_at arcs f) (kth_joins 0 f found)

  counted_after : (i : ℕ) → IsKthBetween arcs tail head 0 (Some i) → 1 ≤ count_by (joins tail head) (take (i + 1) arcs)
  counted_after i found = omega (arith, found.2, count_by_more_yes (joins tail head) arcs i no_arc found.0 (kth_joins 0 i found))

  not_before : (i j : ℕ) → IsKthBetween arcs tail head 0 (Some i) → IsKthBetween arcs tail head 0 (Some j) → ¬ (i < j)
  not_before i j found other before =
      let some = rw (take-take (i + 1) j arcs (omega (arith, before))) at (sum_by-take-le (λ b. cond (joins tail head b) 1 0) (take j arcs) (i + 1)) in
      omega (arith, counted_after i found, some, other.2)

  pub one_first : (i j : ℕ) → IsKthBetween arcs tail head 0 (Some i) → IsKthBetween arcs tail head 0 (Some j) → i ≡ j
  one_first i j found other = elim (cases_order i j) [
    | inl same ↦ same
    | inr (inl before) ↦ absurd (not_before i j found other before)
    | inr (inr after) ↦ absurd (not_before j i other found after)
  ]

  -- the first arc between two nodes is the first with its own ends
  pub first_itself : (f : ℕ) → IsKthBetween arcs tail head 0 (Some f) → IsFirstParallel arcs f f
  first_itself f found = let e = first_ends f found in rw (e.0, e.1) found

  pub known_from : (f : ℕ) → IsKthBetween arcs tail head 0 (Some f) → 1 ≤ count_by (joins tail head) arcs
  known_from f found = omega (arith, counted_after f found, sum_by-take-le (λ b. cond (joins tail head b) 1 0) arcs (f + 1))

  -- if some arc joins two nodes, there is a first
  abbrev HasFirst : Type 0
  HasFirst = (f : ℕ) × IsKthBetween arcs tail head 0 (Some f)

  first_below : (n : ℕ) → n ≤ length arcs → HasFirst ⊎ (count_by (joins tail head) (take n arcs) ≡ 0)
  first_below zero few = inr refl
  first_below (suc n) few = elim (first_below n (omega (arith, few))) [
    | inl found ↦ inl found
    | inr none ↦ elim (cases_Bool (joins tail head (arc_at arcs n))) [
      | inl is ↦ inl (n, (omega (arith, few), rw (slice_get-get_or arcs n no_arc (omega (arith, few))) is, none))
      | inr off ↦ (let e : suc n ≡ n + 1 = omega arith in inr (rw e (count_by_more_no (joins tail head) arcs n no_arc (omega (arith, few)) off ∙ none)))
    ]
  ]

  pub first_between : (i : ℕ) → i < length arcs → joins tail head (arc_at arcs i) ≡ true → HasFirst
  first_between i inside joined = elim (first_below (length arcs) (omega arith)) [
    | inl found ↦ found
    | inr none ↦ (
        let all = rw (take_all (length arcs) arcs (omega arith)) at none in
        let here = count_by_more_yes (joins tail head) arcs i no_arc inside joined in
        absurd (omega (arith, all, here, sum_by-take-le (λ b. cond (joins tail head b) 1 0) arcs (i + 1)))
        )
  ]

-- ---- arcs with the same ends
module _ (arcs : List ArcView) where
  pub first_is_parallel : (k f : ℕ) → IsFirstParallel arcs k f → AreParallel arcs f k
  first_is_parallel k f found = first_ends arcs (arc_at arcs k).tail (arc_at arcs k).head f found

  pub first_of_parallel : (i j f : ℕ) → AreParallel arcs i j → IsFirstParallel arcs i f → IsFirstParallel arcs j f
  first_of_parallel i j f same found = rw (← same.0, ← same.1) found

  pub parallel_joins : (i j tail head : ℕ) → AreParallel arcs i j → joins tail head (arc_at arcs i) ≡ joins tail head (arc_at arcs j)
  parallel_joins i j tail head same = rw (same.0, same.1) refl

  pub own_joins : (k : ℕ) → joins (arc_at arcs k).tail (arc_at arcs k).head (arc_at arcs k) ≡ true
  own_joins k = joins_ends (arc_at arcs k).tail (arc_at arcs k).head (arc_at arcs k) refl refl

  --   an arc has its own ends
  pub known_itself : (k : ℕ) → k < length arcs → 1 ≤ count_by (joins (arc_at arcs k).tail (arc_at arcs k).head) arcs
  known_itself k inside =
      let more = count_by_more_yes (joins (arc_at arcs k).tail (arc_at arcs k).head) arcs k no_arc inside (own_joins k) in
      omega (arith, more, sum_by-take-le (λ b. cond (joins (arc_at arcs k).tail (arc_at arcs k).head b) 1 0) arcs (k + 1))

  --   an arc has its ends, so there is a first arc with them
  pub always_first : (k : ℕ) (a : ArcView) → slice_get arcs k ≡ Some a → IsKthBetween arcs a.tail a.head 0 None → ⊥
  always_first k a here none = let none_like = rw (← get_or_from_slice_get arcs k a no_arc here) at none in omega (arith, none_like, known_itself k (slice_get_within arcs k a here))

  pub first_of_arc : (k f : ℕ) (a : ArcView) → slice_get arcs k ≡ Some a → IsKthBetween arcs a.tail a.head 0 (Some f) → IsFirstParallel arcs k f
  first_of_arc k f a here found = rw (get_or_from_slice_get arcs k a no_arc here) found

-- ---- entries
pub entry_joins : (arcs : List ArcView) (e : Entry) (f tail head : ℕ) → IsKthBetween arcs e.tail e.head 0 (Some f) → joins tail head (arc_at arcs f) ≡ is_between tail head e
entry_joins arcs e f tail head found = let same = ends_of e.tail e.head (arc_at arcs f) (kth_joins arcs e.tail e.head 0 f found) in rw (same.0, same.1) refl
