-- The flow after everything is dealt out.
use Rattle.std.proofs.Common.{◌≡◌, ◌≢◌, inl, inr, ℕ, ◌^◌, ◌<◌, true, List, length, Result, Ok, Err, Some, All, ℤ, pos, neg_ℤ, ◌+ℤ◌, ◌≤ℤ◌, ◌<ℤ◌, sym, ◌∙◌, arith}
use Rattle.std.proofs.{lemmas.Int.{ints, by_lt_z}, lemmas.Bool.{cases_eq}, lemmas.List.{get_or-map, length-map}}
use Rattle.std.proofs.lemmas.List.Elements.{All-get_or}
use Rattle.dimacs_claims.specs.declared.place.Entry.{Entry}
use Rattle.dimacs_instance.specs.MinFlows.{HasBounds}
use Rattle.dimacs_network.specs.{declared.network.ArcView.{ArcView}, Arcs.{joins, IsKthBetween, arc_at, no_arc}}
use Rattle.dimacs_records.specs.{Ranges.{IsWhole}, declared.reasons.Reason.{Reason}}
use Rattle.dimacs_judging.specs.{declared.verdict.Where.{Where}, Rows.{amount_at, arc_row}, Tests.{TestsRow}}
use Rattle.dimacs_solve.specs.Spread.{AmountFails, arc_sum, caps, Deals, entry_sum, lows, NoneCheaper, OthersCarry}
use Rattle.dimacs_solve.specs.{inside.Raised.{AreDealt}, inside.Rests.{AddUp, IsFirstParallel, rest_row}}
use Rattle.dimacs_solve.proofs.{Cheapest.{none_cheaper}, EndLemmas.{ends_of, first_between, kth_joins, one_first}}
use Rattle.dimacs_solve.proofs.SumLemmas.{arc_sum-add, arc_sum-alike, arc_sum-le, arc_sum-one, kept_at, kept_from, kept_long}

-- no arc costs less
abbrev least_cost : ℤ
least_cost = neg_ℤ (pos (2 ^ 63))

pub cap_at : (arcs : List ArcView) (k : ℕ) → k < length arcs → amount_at (caps arcs) k ≡ (arc_at arcs k).cap
cap_at arcs k inside = get_or-map (λ (a : ArcView). a.cap) arcs k no_arc (pos 0) inside

pub low_at : (arcs : List ArcView) (k : ℕ) → k < length arcs → amount_at (lows arcs) k ≡ (arc_at arcs k).low
low_at arcs k inside = get_or-map (λ (a : ArcView). a.low) arcs k no_arc (pos 0) inside

pub caps_long : (arcs : List ArcView) → length (caps arcs) ≡ length arcs
caps_long arcs = length-map arcs (λ (a : ArcView). a.cap)

pub lows_long : (arcs : List ArcView) → length (lows arcs) ≡ length arcs
lows_long arcs = length-map arcs (λ (a : ArcView). a.low)

zero_unless : (z : ℤ) → ((z ≡ pos 0 → ⊥) → ⊥) → z ≡ pos 0
zero_unless z not = by_lt_z z (pos 0)
    (λ less. absurd (not (λ e. omega (arith, ints, e, less))))
    (λ least. by_lt_z (pos 0) z
    (λ more. absurd (not (λ e. omega (arith, ints, e, more))))
    (λ most. omega (arith, ints, least, most)))

module _ (arcs : List ArcView) (entries : List Entry) (rests x : List ℤ) (dealt : AreDealt arcs rests x) (sums : AddUp arcs entries rests x) where
  most : (tail head : ℕ) → arc_sum arcs x tail head ≤ℤ arc_sum arcs (caps arcs) tail head
  most tail head = arc_sum-le arcs x (caps arcs) tail head dealt.within.one_each (caps_long arcs) (λ i h j. let e = cap_at arcs i h in let c = dealt.within.cap i h in omega (arith, ints, e, c))

  least : (tail head : ℕ) → arc_sum arcs (lows arcs) tail head ≤ℤ arc_sum arcs x tail head
  least tail head = arc_sum-le arcs (lows arcs) x tail head (lows_long arcs) dealt.within.one_each (λ i h j. let e = low_at arcs i h in let l = dealt.within.low i h in omega (arith, ints, e, l))

  -- ---- the rest between two nodes, stored at the first arc
  module _ (tail head f : ℕ) (found : IsKthBetween arcs tail head 0 (Some f)) where
    like_first : (i : ℕ) → joins tail head (arc_at arcs i) ≡ true → IsFirstParallel arcs i f
    like_first i joined = let same = ends_of tail head (arc_at arcs i) joined in rw (same.0, same.1) found

    others_none : (i : ℕ) → i < length arcs → joins tail head (arc_at arcs i) ≡ true → i ≢ f → amount_at rests i ≡ pos 0
    others_none i h joined other = zero_unless (amount_at rests i) (λ some. other (one_first arcs (arc_at arcs i).tail (arc_at arcs i).head i f (dealt.at_first i h some) (like_first i joined)))

    rest_sum : amount_at rests f +ℤ arc_sum arcs x tail head ≡ entry_sum entries tail head
    rest_sum = let one = arc_sum-one arcs rests f tail head dealt.rests_long found.0 (kth_joins arcs tail head 0 f found) others_none in omega (arith, ints, one, sums tail head)

    all_full : pos 0 <ℤ amount_at rests f → arc_sum arcs x tail head ≡ arc_sum arcs (caps arcs) tail head
    all_full more = arc_sum-alike arcs x (caps arcs) tail head dealt.within.one_each (caps_long arcs) (λ i h j. dealt.full i f h (like_first i j) more ∙ sym (cap_at arcs i h))

    all_low : amount_at rests f <ℤ pos 0 → arc_sum arcs x tail head ≡ arc_sum arcs (lows arcs) tail head
    all_low less = arc_sum-alike arcs x (lows arcs) tail head dealt.within.one_each (lows_long arcs) (λ i h j. dealt.low i f h (like_first i j) less ∙ sym (low_at arcs i h))

    too_much_left : arc_sum arcs (caps arcs) tail head <ℤ entry_sum entries tail head → pos 0 <ℤ amount_at rests f
    too_much_left over = omega (arith, ints, over, rest_sum, most tail head)

    too_little_left : entry_sum entries tail head <ℤ arc_sum arcs (lows arcs) tail head → amount_at rests f <ℤ pos 0
    too_little_left under = omega (arith, ints, under, rest_sum, least tail head)

    none_left : arc_sum arcs (lows arcs) tail head ≤ℤ entry_sum entries tail head → entry_sum entries tail head ≤ℤ arc_sum arcs (caps arcs) tail head → amount_at rests f ≡ pos 0
    none_left above below = by_lt_z (amount_at rests f) (pos 0)
        (λ less. let e = all_low less in absurd (omega (arith, ints, above, rest_sum, e, less)))
        (λ not. by_lt_z (pos 0) (amount_at rests f)
        (λ more. let e = all_full more in absurd (omega (arith, ints, below, rest_sum, e, more)))
        (λ no. omega (arith, ints, not, no)))

  -- if the arcs between two nodes can keep their bounds, they have no rest
  no_rest : (tail head i : ℕ) → i < length arcs → joins tail head (arc_at arcs i) ≡ true
      → arc_sum arcs (lows arcs) tail head ≤ℤ entry_sum entries tail head → entry_sum entries tail head ≤ℤ arc_sum arcs (caps arcs) tail head → amount_at rests i ≡ pos 0
  no_rest tail head i h joined above below =
      let (f, found) = first_between arcs tail head i h joined in
      elim (cases_eq i f) [
        | inl same ↦ rw same (none_left tail head f found above below)
        | inr other ↦ others_none tail head f found i h joined other
      ]

  -- ---- amounts that don't fit
  module _ (bounds : All HasBounds arcs) where
    has : (k : ℕ) → k < length arcs → HasBounds (arc_at arcs k)
    has k inside = All-get_or HasBounds arcs k no_arc inside bounds

    amount_fails : (k : ℕ) (place : Where) (reason : Reason) → rest_row x rests k place reason → arc_row arcs (AmountFails arcs entries) k place reason
    amount_fails k place reason (within, at, leaves) =
        let inside : k < length arcs = omega (arith, within, dealt.rests_long) in
        let t = (arc_at arcs k).tail in
        let h = (arc_at arcs k).head in
        let b = has k inside in
        let whole : IsWhole (arc_at arcs k).cap = b.2 in (
          inside,
          at,
          elim leaves [
            | inl less ↦ (
                let low = dealt.within.low k inside in
                let lack : amount_at rests k <ℤ pos 0 = omega (arith, ints, less.1, low, b.0) in
                let first = dealt.at_first k inside (λ e. omega (arith, ints, e, lack)) in
                let e = dealt.low k k inside first lack in
                let l = low_at arcs k inside in
                (first, inl (less.0, omega (arith, ints, less.1, e, l, rest_sum t h k first, all_low t h k first lack)))
                )
            | inr more ↦ (
                let cap = dealt.within.cap k inside in
                let some : pos 0 <ℤ amount_at rests k = omega (arith, ints, more.1, cap, whole.1) in
                let first = dealt.at_first k inside (λ e. omega (arith, ints, e, some)) in
                let e = dealt.full k k inside first some in
                let l = cap_at arcs k inside in
                (first, inr (more.0, omega (arith, ints, more.1, e, l, rest_sum t h k first, all_full t h k first some)))
                )
          ],
        )

    rest_fails : (k : ℕ) (place : Where) (reason : Reason) → arc_row arcs (AmountFails arcs entries) k place reason → rest_row x rests k place reason
    rest_fails k place reason (inside, at, fails) =
        let first = fails.0 in
        let t = (arc_at arcs k).tail in
        let h = (arc_at arcs k).head in
        let b = has k inside in
        let whole : IsWhole (arc_at arcs k).cap = b.2 in (
          omega (arith, inside, dealt.rests_long),
          at,
          elim fails.1 [
            | inl less ↦ (
                let l = low_at arcs k inside in
                let lack = too_little_left t h k first (omega (arith, ints, less.1, l, b.0)) in
                let e = dealt.low k k inside first lack in
                inl (less.0, omega (arith, ints, less.1, e, l, rest_sum t h k first, all_low t h k first lack))
                )
            | inr more ↦ (
                let l = cap_at arcs k inside in
                let some = too_much_left t h k first (omega (arith, ints, more.1, l, whole.1)) in
                let e = dealt.full k k inside first some in
                inr (more.0, omega (arith, ints, more.1, e, l, rest_sum t h k first, all_full t h k first some))
                )
          ],
        )

    pub put_fits : (told : Result Unit (Where × Reason)) → TestsRow (rest_row x rests) told → TestsRow (arc_row arcs (AmountFails arcs entries)) told
    put_fits (Ok done) clear = λ k place reason fails. clear k place reason (rest_fails k place reason fails)
    put_fits (Err refusal) first = record {
      number = first.number;
      fails = amount_fails first.number refusal.0 refusal.1 first.fails;
      earlier = λ k below place reason fails. first.earlier k below place reason (rest_fails k place reason fails);
    }

  -- ---- the flow with the rests on it
  module _ (z : List ℤ) (long : length z ≡ length arcs) (put : (k : ℕ) → amount_at z k ≡ amount_at x k +ℤ amount_at rests k) where
    --   where no rest was left
    same_at : (i : ℕ) → amount_at rests i ≡ pos 0 → amount_at z i ≡ amount_at x i
    same_at i none = omega (arith, ints, put i, none)

    --   an arc that isn't the first has no rest
    other_at : (tail head j k : ℕ) → 0 < j → IsKthBetween arcs tail head j (Some k) → (f : ℕ) → IsKthBetween arcs tail head 0 (Some f) → amount_at z k ≡ amount_at x k
    other_at tail head j k after found f first = same_at k (others_none tail head f first k found.0 (kth_joins arcs tail head j k found) (λ same. let none = rw same at found.2 in omega (arith, after, none, first.2)))

    few_left : (tail head : ℕ) → entry_sum entries tail head <ℤ arc_sum arcs (lows arcs) tail head → OthersCarry arcs z (lows arcs) tail head
    few_left tail head under j k after found =
        let joined = kth_joins arcs tail head j k found in
        let (f, first) = first_between arcs tail head k found.0 joined in
        other_at tail head j k after found f first ∙ dealt.low k f found.0 (like_first tail head f first k joined) (too_little_left tail head f first under) ∙ sym (low_at arcs k found.0)

    many_left : (tail head : ℕ) → arc_sum arcs (caps arcs) tail head <ℤ entry_sum entries tail head → OthersCarry arcs z (caps arcs) tail head
    many_left tail head over j k after found =
        let joined = kth_joins arcs tail head j k found in
        let (f, first) = first_between arcs tail head k found.0 joined in
        other_at tail head j k after found f first ∙ dealt.full k f found.0 (like_first tail head f first k joined) (too_much_left tail head f first over) ∙ sym (cap_at arcs k found.0)

    pub put_deals : Deals arcs entries z
    put_deals = record {
      one_each = long;
      sums = λ tail head. arc_sum-add arcs x rests z tail head dealt.within.one_each dealt.rests_long long put ∙ sums tail head;
      kept = λ tail head above below. kept_from arcs z tail head long (λ i h joined.
          let e = same_at i (no_rest tail head i h joined above below) in
          let l = dealt.within.low i h in
          let c = dealt.within.cap i h in
          (omega (arith, ints, e, l), omega (arith, ints, e, c)));
      too_little = few_left;
      too_much = many_left;
    }

    pub put_cheapest : All HasBounds arcs → NoneCheaper arcs entries z
    put_cheapest bounds tail head y sum keeps =
        let y_long = kept_long arcs y tail head keeps in
        let below = arc_sum-le arcs y (caps arcs) tail head y_long (caps_long arcs) (λ i h j. let e = cap_at arcs i h in let b = kept_at arcs y tail head i keeps h j in omega (arith, ints, e, b.1)) in
        let above = arc_sum-le arcs (lows arcs) y tail head (lows_long arcs) y_long (λ i h j. let e = low_at arcs i h in let b = kept_at arcs y tail head i keeps h j in omega (arith, ints, e, b.0)) in
        let same : (i : ℕ) → i < length arcs → joins tail head (arc_at arcs i) ≡ true → amount_at z i ≡ amount_at x i = λ i h joined. same_at i (no_rest tail head i h joined (omega (arith, ints, above, sum)) (omega (arith, ints, below, sum))) in
        let dearer : (k : ℕ) → k < length arcs → least_cost ≤ℤ (arc_at arcs k).cost = λ k inside. let b = has bounds k inside in let whole : IsWhole (arc_at arcs k).cost = b.3 in omega (arith, ints, whole.0) in
        none_cheaper arcs least_cost z y tail head dearer long (λ i j h g joined other cheaper over.
        let e = same j g other in
        let one = ends_of tail head (arc_at arcs i) joined in
        let two = ends_of tail head (arc_at arcs j) other in
        same i h joined ∙ dealt.cheapest_first i j h g (one.0 ∙ sym two.0, one.1 ∙ sym two.1) cheaper (omega (arith, ints, e, over))) keeps (put_deals.sums tail head ∙ sym sum)
