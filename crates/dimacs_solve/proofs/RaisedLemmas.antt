-- Amounts while arcs are raised.
use Rattle.std.proofs.Common.{◌≡◌, ◌≢◌, Some, slice_get, inl, inr, ℕ, ◌+◌, ◌<◌, ◌≤◌, List, length, All, ℤ, pos, ◌+ℤ◌, ◌-ℤ◌, ◌≤ℤ◌, ◌<ℤ◌, w64, SFits, refl, sym, subst, ap, ◌∙◌, arith}
use Rattle.std.proofs.{lemmas.Int.{ints, by_lt_z}, lemmas.Bool.{cases_eq, cases_lt}, lemmas.List.Elements.{All-get_or}}
use Rattle.std.proofs.lemmas.Option.{get_or_from_slice_get}
use Rattle.std.proofs.lemmas.List.{length-set, get_or-set_other, get_or-set_same}
use Rattle.std.specs.Int.{w128}
use Rattle.dimacs_claims.specs.declared.place.Entry.{Entry}
use Rattle.dimacs_instance.specs.MinFlows.{HasBounds}
use Rattle.dimacs_network.specs.{declared.network.ArcView.{ArcView}, Arcs.{arc_at, no_arc}}
use Rattle.dimacs_records.specs.Ranges.{IsWhole}
use Rattle.dimacs_judging.specs.Rows.{amount_at}
use Rattle.dimacs_solve.specs.{declared.arcs_by_cost.ArcOfCost.{ArcOfCost}, inside.ArcsByCost.{AreByCost, place_at}}
use Rattle.dimacs_solve.specs.inside.Raised.{AreParallel, AreDealt, AreDealtUpTo, AreWithin, CheapestAreFull, IsMore, IsRaised}
use Rattle.dimacs_solve.specs.inside.Rests.{AddUp, AreLows, AreRests, IsFirstParallel}
use Rattle.dimacs_solve.proofs.{EndLemmas.{first_of_parallel, one_first}, RestLemmas.{sums_moved}}

-- ---- sizes
-- an amount within the bounds of its arc
pub record IsAmountOf (a : ArcView) (z : ℤ) : Type 0 where
  pub bounds : HasBounds a
  pub low : a.low ≤ℤ z
  pub fits : SFits w64 z
  pub cap_fits : SFits w64 a.cap
  pub residual_fits : SFits w64 (a.cap -ℤ z)
  pub residual : pos 0 ≤ℤ (a.cap -ℤ z)

pub amount_of : {arcs : List ArcView} {x : List ℤ} (k : ℕ) (a : ArcView) → slice_get arcs k ≡ Some a → k < length arcs → All HasBounds arcs → AreWithin arcs x → IsAmountOf a (amount_at x k)
amount_of {arcs} {x} k a here inside bounds within =
    let same : arc_at arcs k ≡ a = get_or_from_slice_get arcs k a no_arc here in
    let has : HasBounds a = rw same at (All-get_or HasBounds arcs k no_arc inside bounds) in
    let low : a.low ≤ℤ amount_at x k = rw same at (within.low k inside) in
    let cap : amount_at x k ≤ℤ a.cap = rw same at (within.cap k inside) in
    let whole : IsWhole a.cap = has.2 in
    record {
      bounds = has;
      low = low;
      fits = omega (arith, ints, has.0, low, cap, whole.1);
      cap_fits = omega (arith, ints, has.0, low, cap, whole.1);
      residual_fits = omega (arith, ints, has.0, low, cap, whole.1);
      residual = omega (arith, ints, cap);
    }

pub fits_taken : {rest residual more : ℤ} → SFits w128 rest → IsMore rest residual more → SFits w128 (rest -ℤ more)
fits_taken fits is = elim is.from_rest [
  | inl none ↦ omega (arith, ints, fits, none)
  | inr some ↦ omega (arith, ints, fits, some, is.not_less)
]

pub fits_raised : {a : ArcView} {z rest more : ℤ} → IsAmountOf a z → IsMore rest (a.cap -ℤ z) more → SFits w64 (z +ℤ more)
fits_raised {a} at is = let whole : IsWhole a.cap = at.bounds.2 in omega (arith, ints, at.bounds.0, at.low, whole.1, is.not_less, is.within_residual)

-- ---- lower bounds are within the bounds
pub lows_within : (arcs : List ArcView) (x : List ℤ) → All HasBounds arcs → AreLows arcs (length arcs) x → AreWithin arcs x
lows_within arcs x bounds are = record {
  one_each = are.one_each;
  low = λ k inside. let e = are.low k inside in omega (arith, ints, e);
  cap = λ k inside. let e = are.low k inside in let has = All-get_or HasBounds arcs k no_arc inside bounds in omega (arith, ints, e, has.1);
}

pub none_dealt : (arcs : List ArcView) (order : List ArcOfCost) (n : ℕ) (rests x : List ℤ) → All HasBounds arcs → AreRests arcs n rests → AreLows arcs (length arcs) x → AreDealtUpTo arcs order 0 rests x
none_dealt arcs order n rests x bounds are lows = record {
  rests_long = are.one_each;
  at_first = are.at_first;
  within = lows_within arcs x bounds lows;
  full = λ q f none. absurd (omega (arith, none));
  low = λ k f inside found less. lows.low k inside;
  cheapest_first = λ i j within inside same cheaper raised. let e = lows.low j inside in absurd (omega (arith, ints, e, raised));
}

-- ---- one more arc
module _ (arcs : List ArcView) (order : List ArcOfCost) (by_cost : AreByCost arcs order) (q : ℕ) (here : q < length order) (rests x rests_then x_then : List ℤ)
    (dealt : AreDealtUpTo arcs order q rests x) (raised : IsRaised arcs (place_at order q).arc rests x rests_then x_then) where
  abbrev k : ℕ
  k = (place_at order q).arc

  inside : k < length arcs
  inside = by_cost.known q here

  first_in : raised.first < length rests
  first_in = omega (arith, raised.is_first.0, dealt.rests_long)

  rest_here : amount_at rests_then raised.first ≡ amount_at rests raised.first -ℤ raised.more
  rest_here = rw raised.rest_is (get_or-set_same rests raised.first _ (pos 0) first_in)

  rest_other : (f : ℕ) → f ≢ raised.first → amount_at rests_then f ≡ amount_at rests f
  rest_other f other = rw raised.rest_is (get_or-set_other rests raised.first f _ (pos 0) other)

  amount_here : amount_at x_then k ≡ amount_at x k +ℤ raised.more
  amount_here =
      let long : (place_at order q).arc < length x = omega (arith, by_cost.known q here, dealt.within.one_each) in
      ap (λ y. amount_at y (place_at order q).arc) raised.amount_is ∙ get_or-set_same x (place_at order q).arc _ (pos 0) long

  amount_other : (i : ℕ) → i ≢ k → amount_at x_then i ≡ amount_at x i
  amount_other i other = rw raised.amount_is (get_or-set_other x (place_at order q).arc i _ (pos 0) other)

  --   a rest that is positive after a step was positive before it
  rest_before : (f : ℕ) → pos 0 <ℤ amount_at rests_then f → pos 0 <ℤ amount_at rests f
  rest_before f some = elim (cases_eq f raised.first) [
    | inl same ↦ (let e : amount_at rests_then f ≡ amount_at rests f -ℤ raised.more = rw same rest_here in omega (arith, ints, e, some, raised.is_more.not_less))
    | inr other ↦ (let e = rest_other f other in omega (arith, ints, e, some))
  ]

  lack_before : (f : ℕ) → amount_at rests_then f <ℤ pos 0 → amount_at rests f <ℤ pos 0
  lack_before f less = elim (cases_eq f raised.first) [
    | inl same ↦ (
        let e : amount_at rests_then f ≡ amount_at rests f -ℤ raised.more = rw same rest_here in
        elim raised.is_more.from_rest [
          | inl none ↦ omega (arith, ints, e, less, none)
          | inr some ↦ (let s : raised.more ≤ℤ amount_at rests f = rw same some in absurd (omega (arith, ints, e, less, s)))
        ]
        )
    | inr other ↦ (let e = rest_other f other in omega (arith, ints, e, less))
  ]

  some_before : (f : ℕ) → (amount_at rests_then f ≡ pos 0 → ⊥) → amount_at rests f ≡ pos 0 → ⊥
  some_before f some none = elim (cases_eq f raised.first) [
    | inl same ↦ (
        let e : amount_at rests_then f ≡ amount_at rests f -ℤ raised.more = rw same rest_here in
        elim raised.is_more.from_rest [
          | inl zero_is ↦ some (omega (arith, ints, e, none, zero_is))
          | inr less ↦ (let s : raised.more ≤ℤ amount_at rests f = rw same less in some (omega (arith, ints, e, none, s, raised.is_more.not_less)))
        ]
        )
    | inr other ↦ some (rest_other f other ∙ none)
  ]

  --   a full arc stays full
  full_still : (i : ℕ) → amount_at x i ≡ (arc_at arcs i).cap → amount_at x_then i ≡ (arc_at arcs i).cap
  full_still i full = elim (cases_eq i k) [
    | inl same ↦ (
        let f : amount_at x k ≡ (arc_at arcs k).cap = rw (← same) full in
        rw same (omega (arith, ints, amount_here, f, raised.is_more.not_less, raised.is_more.within_residual))
        )
    | inr other ↦ amount_other i other ∙ full
  ]

  within_still : AreWithin arcs x_then
  within_still = record {
    one_each = rw raised.amount_is (length-set x (place_at order q).arc _ ∙ dealt.within.one_each);
    low = λ i h. elim (cases_eq i k) [
      | inl same ↦ (let l = dealt.within.low k inside in rw same (omega (arith, ints, amount_here, l, raised.is_more.not_less)))
      | inr other ↦ (let l = dealt.within.low i h in let e = amount_other i other in omega (arith, ints, e, l))
    ];
    cap = λ i h. elim (cases_eq i k) [
      | inl same ↦ rw same (omega (arith, ints, amount_here, raised.is_more.within_residual))
      | inr other ↦ (let l = dealt.within.cap i h in let e = amount_other i other in omega (arith, ints, e, l))
    ];
  }

  full_more : (p f : ℕ) → p < q + 1 → IsFirstParallel arcs (place_at order p).arc f → pos 0 <ℤ amount_at rests_then f → amount_at x_then (place_at order p).arc ≡ (arc_at arcs (place_at order p).arc).cap
  full_more p f below found some = elim (cases_eq p q) [
    | inl same ↦ (
        let like : IsFirstParallel arcs k f = subst (λ j. IsFirstParallel arcs (place_at order j).arc f) same found in
        let one : f ≡ raised.first = one_first arcs (arc_at arcs k).tail (arc_at arcs k).head f raised.first like raised.is_first in
        let left : pos 0 <ℤ (amount_at rests raised.first -ℤ raised.more) = rw (one, rest_here) at some in
        let all = raised.is_more.all_residual (omega (arith, ints, left)) in
        rw same (omega (arith, ints, amount_here, all))
        )
    | inr other ↦ full_still (place_at order p).arc (dealt.full p f (omega (arith, below, other)) found (rest_before f some))
  ]

  low_still : (i f : ℕ) → i < length arcs → IsFirstParallel arcs i f → amount_at rests_then f <ℤ pos 0 → amount_at x_then i ≡ (arc_at arcs i).low
  low_still i f h found less =
      let was = dealt.low i f h found (lack_before f less) in
      elim (cases_eq i k) [
        | inl same ↦ (
            let like : IsFirstParallel arcs k f = rw (← same) found in
            let one : f ≡ raised.first = one_first arcs (arc_at arcs k).tail (arc_at arcs k).head f raised.first like raised.is_first in
            let lack : amount_at rests raised.first <ℤ pos 0 = rw one at (lack_before f less) in
            let none : raised.more ≡ pos 0 = elim raised.is_more.from_rest [ inl zero_is ↦ zero_is | inr more ↦ absurd (omega (arith, ints, more, lack, raised.is_more.not_less)) ] in
            let w : amount_at x k ≡ (arc_at arcs k).low = rw (← same) was in
            rw same (omega (arith, ints, amount_here, none, w))
            )
        | inr other ↦ amount_other i other ∙ was
      ]

  --   if more was put on this arc, the cheaper arcs with its ends are full
  cheaper_full : (i : ℕ) → i < length arcs → AreParallel arcs i k → (arc_at arcs i).cost <ℤ (arc_at arcs k).cost → pos 0 <ℤ raised.more → amount_at x i ≡ (arc_at arcs i).cap
  cheaper_full i h same cheaper more =
      let at = by_cost.all i h in
      let p = at.0 in
      let is : (place_at order p).arc ≡ i = at.1.1 in
      let some : pos 0 <ℤ amount_at rests raised.first = elim raised.is_more.from_rest [ inl none ↦ absurd (omega (arith, ints, none, more)) | inr less ↦ omega (arith, ints, less, more) ] in
      let found : IsFirstParallel arcs i raised.first = first_of_parallel arcs k i raised.first (sym same.0, sym same.1) raised.is_first in
      let not_after : (q < p) → ⊥ = λ after. let dear : (arc_at arcs k).cost ≤ℤ (arc_at arcs i).cost = rw is at (by_cost.ordered q p after at.1.0) in omega (arith, ints, dear, cheaper) in
      let not_here : p ≡ q → ⊥ = λ e. let c : (arc_at arcs i).cost ≡ (arc_at arcs k).cost = ap (λ j. (arc_at arcs j).cost) (sym is) ∙ ap (λ j. (arc_at arcs (place_at order j).arc).cost) e in omega (arith, ints, c, cheaper) in
      elim (cases_lt p q) [
        | inl before ↦ rw is at (dealt.full p raised.first before (rw is found) some)
        | inr past ↦ elim (cases_eq p q) [ inl e ↦ absurd (not_here e) | inr ne ↦ absurd (not_after (omega (arith, past, ne))) ]
      ]

  cheapest_still : CheapestAreFull arcs x_then
  cheapest_still i j h g same cheaper over = elim (cases_eq j k) [
    | inl is ↦ (
        let parallel : AreParallel arcs i k = rw is at same in
        let less : (arc_at arcs i).cost <ℤ (arc_at arcs k).cost = rw is at cheaper in
        by_lt_z (pos 0) raised.more
        (λ more. full_still i (cheaper_full i h parallel less more))
        (λ none. let was : (arc_at arcs k).low <ℤ amount_at x k = (let o : (arc_at arcs k).low <ℤ amount_at x_then k = rw is at over in omega (arith, ints, amount_here, o, none)) in
        full_still i (dealt.cheapest_first i k h inside parallel less was))
        )
    | inr other ↦ (
        let e = amount_other j other in
        full_still i (dealt.cheapest_first i j h g same cheaper (omega (arith, ints, e, over)))
        )
  ]

  pub dealt_more : AreDealtUpTo arcs order (q + 1) rests_then x_then
  dealt_more = record {
    rests_long = rw raised.rest_is (length-set rests raised.first _ ∙ dealt.rests_long);
    at_first = λ i h some. dealt.at_first i h (some_before i some);
    within = within_still;
    full = full_more;
    low = low_still;
    cheapest_first = cheapest_still;
  }

  pub sums_still : (entries : List Entry) → AddUp arcs entries rests x → AddUp arcs entries rests_then x_then
  sums_still entries sums = rw (raised.rest_is, raised.amount_is) (sums_moved arcs entries rests x (place_at order q).arc raised.first raised.more _ dealt.rests_long dealt.within.one_each inside raised.is_first refl sums)

-- ---- all arcs
pub all_dealt : (arcs : List ArcView) (order : List ArcOfCost) (n : ℕ) (rests x : List ℤ) → AreByCost arcs order → length order ≤ n → AreDealtUpTo arcs order n rests x → AreDealt arcs rests x
all_dealt arcs order n rests x by_cost all dealt = record {
  rests_long = dealt.rests_long;
  at_first = dealt.at_first;
  within = dealt.within;
  full = λ k f inside found some.
      let at = by_cost.all k inside in
      rw at.1.1 at (dealt.full at.0 f (omega (arith, at.1.0, all)) (rw at.1.1 found) some);
  low = dealt.low;
  cheapest_first = dealt.cheapest_first;
}
