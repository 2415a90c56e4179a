-- Rests when sums change: by an entry, or by an amount put on an arc.
use Rattle.std.proofs.Common.{◌≡◌, ◌≢◌, inl, inr, ℕ, ◌+◌, ◌*◌, ◌^◌, ◌<◌, Bool, true, false, List, [], ◌∷◌, ◌++◌, length, set, replicate, Some, ℤ, pos, neg_ℤ, ◌+ℤ◌, ◌-ℤ◌, w64, SFits, refl, ap, ◌∙◌, arith}
use Rattle.std.proofs.{lemmas.Int.{ints, by_lt_z}, lemmas.Bool.{cases_eq}}
use Rattle.std.proofs.lemmas.List.{length-set, length-replicate, get_or-set_other, get_or-set_same}
use Rattle.std.specs.Int.{w128}
use Rattle.dimacs_claims.specs.declared.place.Entry.{Entry}
use Rattle.dimacs_network.specs.{declared.network.ArcView.{ArcView}, Arcs.{joins, IsKthBetween, arc_at}}
use Rattle.dimacs_records.specs.{Ranges.{IsWhole}, declared.reasons.Reason.{Reason}}
use Rattle.dimacs_judging.specs.{Claims.{is_between}, Flows.{when}, Rows.{amount_at}, inside.Ranges.{IsOfSize}}
use Rattle.dimacs_solve.specs.Spread.{arc_sum, entry_sum}
use Rattle.dimacs_solve.specs.inside.Rests.{AddUp, AreLows, AreRests, IsFirstParallel, LeavesRange, RestFails}
use Rattle.dimacs_solve.proofs.EndLemmas.{parallel_joins, entry_joins, first_is_parallel}
use Rattle.dimacs_solve.proofs.SumLemmas.{amount_zero, arc_sum-set, arc_sum-zero}

-- ---- sizes
pub fits_less : (n : ℕ) (rest low : ℤ) → n < 4294967296 → IsOfSize (n * 2 ^ 63) rest → SFits w64 low → SFits w128 rest × SFits w128 (rest -ℤ low) × IsOfSize ((n + 1) * 2 ^ 63) (rest -ℤ low)
fits_less n rest low few size fits = (omega (arith, ints), omega (arith, ints), omega (arith, ints))

pub fits_more : (n : ℕ) (rest flow : ℤ) → n < 2 ^ 63 + 4294967296 → IsOfSize (n * 2 ^ 63) rest → SFits w64 flow → SFits w128 rest × SFits w128 (rest +ℤ flow) × IsOfSize ((n + 1) * 2 ^ 63) (rest +ℤ flow)
fits_more n rest flow few size fits = (omega (arith, ints), omega (arith, ints), omega (arith, ints))

-- ---- rests
pub rests_zero : (arcs : List ArcView) (rests : List ℤ) → rests ≡ replicate (length arcs) (pos 0) → AreRests arcs 0 rests
rests_zero arcs rests is = record {
  one_each = ap (λ (r : List ℤ). length r) is ∙ length-replicate (length arcs) (pos 0);
  at_first = λ k inside some. absurd (some (zero_at k));
  small = λ k. let e = zero_at k in omega (arith, ints, e);
}
  where
    zero_at : (k : ℕ) → amount_at rests k ≡ pos 0
    zero_at k = rw is (amount_zero (length arcs) k)

pub rests_changed : (arcs : List ArcView) (n : ℕ) (rests : List ℤ) (f : ℕ) (v : ℤ) → AreRests arcs n rests → f < length arcs → IsFirstParallel arcs f f → IsOfSize ((n + 1) * 2 ^ 63) v → AreRests arcs (n + 1) (set rests f v)
rests_changed arcs n rests f v are inside first size = record {
  one_each = length-set rests f v ∙ are.one_each;
  at_first = λ k within some. elim (cases_eq k f) [
    | inl same ↦ rw same first
    | inr other ↦ are.at_first k within (λ zero_is. some (get_or-set_other rests f k v (pos 0) other ∙ zero_is))
  ];
  small = λ k. elim (cases_eq k f) [
    | inl same ↦ (let long : f < length rests = omega (arith, inside, are.one_each) in rw (same, get_or-set_same rests f v (pos 0) long) size)
    | inr other ↦ (let e = get_or-set_other rests f k v (pos 0) other in let h = are.small k in rw e (omega (arith, ints, h.0), omega (arith, ints, h.1)))
  ];
}

-- the rests for an equal number of sums
pub rests_long : (arcs : List ArcView) (n m : ℕ) (rests : List ℤ) → n ≡ m → AreRests arcs n rests → AreRests arcs m rests
rests_long arcs n m rests same are = rw (← same) are

-- ---- what is put on an arc is subtracted from the rest between its ends
when_moved : (b : Bool) (r d z w : ℤ) → w ≡ z +ℤ d → (when b ((r -ℤ d) -ℤ r) +ℤ when b (w -ℤ z)) ≡ pos 0
when_moved true r d z w is = omega (arith, ints, is)
when_moved false r d z w is = omega (arith, ints)

pub sums_moved : (arcs : List ArcView) (entries : List Entry) (rests x : List ℤ) (k first : ℕ) (d w : ℤ) → length rests ≡ length arcs → length x ≡ length arcs → k < length arcs → IsFirstParallel arcs k first
    → w ≡ amount_at x k +ℤ d → AddUp arcs entries rests x → AddUp arcs entries (set rests first (amount_at rests first -ℤ d)) (set x k w)
sums_moved arcs entries rests x k first d w l m inside found is sums tail head =
    let r = amount_at rests first in
    let z = amount_at x k in
    let b = joins tail head (arc_at arcs k) in
    let parallel : joins tail head (arc_at arcs first) ≡ b = parallel_joins arcs first k tail head (first_is_parallel arcs k first found) in
    let rest : arc_sum arcs (set rests first (r -ℤ d)) tail head ≡ arc_sum arcs rests tail head +ℤ when b ((r -ℤ d) -ℤ r) =
    rw (← parallel) (arc_sum-set arcs rests first (r -ℤ d) tail head l found.0) in
    omega (arith, ints, rest, arc_sum-set arcs x k w tail head m inside, when_moved b r d z w is, sums tail head)

-- ---- lower bounds
pub lows_none : (arcs : List ArcView) (x : List ℤ) → x ≡ replicate (length arcs) (pos 0) → AreLows arcs 0 x
lows_none arcs x is = record {
  one_each = ap (λ (r : List ℤ). length r) is ∙ length-replicate (length arcs) (pos 0);
  low = λ k none. absurd (omega (arith, none));
  none = λ k past. rw is (amount_zero (length arcs) k);
}

pub lows_more : (arcs : List ArcView) (n : ℕ) (x : List ℤ) (low : ℤ) → n < length arcs → low ≡ (arc_at arcs n).low → AreLows arcs n x → AreLows arcs (n + 1) (set x n low)
lows_more arcs n x low inside is are = record {
  one_each = length-set x n low ∙ are.one_each;
  low = λ k below. elim (cases_eq k n) [
    | inl same ↦ (let long : n < length x = omega (arith, inside, are.one_each) in rw same (get_or-set_same x n low (pos 0) long ∙ is))
    | inr other ↦ get_or-set_other x n k low (pos 0) other ∙ are.low k (omega (arith, below, other))
  ];
  none = λ k past. get_or-set_other x n k low (pos 0) (omega (arith, past)) ∙ are.none k (omega (arith, past));
}

pub sums_none : (arcs : List ArcView) (rests x : List ℤ) → rests ≡ replicate (length arcs) (pos 0) → x ≡ replicate (length arcs) (pos 0) → AddUp arcs [] rests x
sums_none arcs rests x no_rests no_amounts tail head =
    rw (no_rests, no_amounts) (let zero_is = arc_sum-zero arcs (length arcs) tail head in omega (arith, ints, zero_is))

-- ---- entries
entry_sum-more : (entries : List Entry) (e : Entry) (tail head : ℕ) → entry_sum (entries ++ e ∷ []) tail head ≡ entry_sum entries tail head +ℤ when (is_between tail head e) e.flow
entry_sum-more [] e tail head = omega (arith, ints)
entry_sum-more (one ∷ entries) e tail head = omega (arith, ints, entry_sum-more entries e tail head)

when_grown : (b : Bool) (r d : ℤ) → when b ((r +ℤ d) -ℤ r) ≡ when b d
when_grown true r d = omega (arith, ints)
when_grown false r d = refl

pub sums_more : (arcs : List ArcView) (entries : List Entry) (e : Entry) (rests x : List ℤ) (f : ℕ) → length rests ≡ length arcs → IsKthBetween arcs e.tail e.head 0 (Some f)
    → AddUp arcs entries rests x → AddUp arcs (entries ++ e ∷ []) (set rests f (amount_at rests f +ℤ e.flow)) x
sums_more arcs entries e rests x f l found sums tail head =
    let r = amount_at rests f in
    let b = is_between tail head e in
    let parallel : joins tail head (arc_at arcs f) ≡ b = entry_joins arcs e f tail head found in
    let rest : arc_sum arcs (set rests f (r +ℤ e.flow)) tail head ≡ arc_sum arcs rests tail head +ℤ when b ((r +ℤ e.flow) -ℤ r) =
    rw (← parallel) (arc_sum-set arcs rests f (r +ℤ e.flow) tail head l found.0) in
    omega (arith, ints, rest, when_grown b r e.flow, entry_sum-more entries e tail head, sums tail head)

-- ---- rests that are added to amounts
pub some_rest : (amount rest : ℤ) → SFits w64 amount → ¬ IsWhole (amount +ℤ rest) → rest ≢ pos 0
some_rest amount rest fits wide none = wide (omega (arith, ints, none, fits), omega (arith, ints, none, fits))

-- the sum of an amount and a rest that doesn't fit is too little if the rest is negative, otherwise too much
pub leaves_range : (amount was rest : ℤ) (reason : Reason) → SFits w64 amount → amount ≡ was → ¬ IsWhole (amount +ℤ rest) → RestFails rest reason → LeavesRange (was +ℤ rest) reason
leaves_range amount was rest reason fits same wide (inl less) = inl (
  less.0,
  by_lt_z (was +ℤ rest) (neg_ℤ (pos (2 ^ 63)))
      (λ little. little)
      (λ not. absurd (wide (omega (arith, ints, not, same), omega (arith, ints, same, fits, less.1)))),
)
leaves_range amount was rest reason fits same wide (inr more) = inr (
  more.0,
  by_lt_z (was +ℤ rest) (pos (2 ^ 63))
      (λ not. absurd (wide (omega (arith, ints, same, fits, more.1), omega (arith, ints, not, same))))
      (λ much. much),
)

-- a number of 64 bits doesn't leave their range
pub fits_none : (sum z : ℤ) (reason : Reason) → SFits w64 sum → sum ≡ z → ¬ LeavesRange z reason
fits_none sum z reason fits same (inl less) = omega (arith, ints, fits, same, less.1)
fits_none sum z reason fits same (inr more) = omega (arith, ints, fits, same, more.1)
