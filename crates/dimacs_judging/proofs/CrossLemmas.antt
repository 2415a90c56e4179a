-- What can flow out of a set of nodes.
use Rattle.std.proofs.Common.{◌≡◌, ℕ, ◌+◌, ◌-◌, ◌*◌, ◌^◌, ◌≤◌, suc, zero, Bool, true, false, List, take, slice_get, Some, ℤ, ◌+ℤ◌, ◌-ℤ◌, pos, refl, ◌∙◌, arith, w64, SFits, to_z, of_z}
use Rattle.std.proofs.lemmas.Int.{ints, to_z-of_z}
use Rattle.std.specs.Int.{w128}
use Rattle.dimacs_lines.specs.Limits.{most_nodes}
use Rattle.dimacs_network.specs.{declared.network.ArcView.{ArcView}, Skips.{Skips}}
use Rattle.dimacs_network.proofs.SkipLemmas.{skipped}
use Rattle.dimacs_judging.specs.{inside.Ranges.{IsOfSize}, Flows.{when}, Cuts.{leaves, enters}}
use Rattle.dimacs_judging.specs.ViolatedSets.{sum_where, supply_in}
use Rattle.dimacs_judging.proofs.StepLemmas.{sum_where_more}

-- adding numbers of this size doesn't overflow
pub sum_stays : (sum x : ℤ) → IsOfSize (2 ^ 120) sum → IsOfSize (2 ^ 63) x → to_z w128 (of_z w128 (to_z w128 (of_z w128 sum) +ℤ to_z w128 (of_z w128 x))) ≡ sum +ℤ x
sum_stays sum x s t =
    let fits_sum : SFits w128 sum = omega (arith, ints) in
    let fits_x : SFits w128 x = omega (arith, ints) in
    let fits : SFits w128 (sum +ℤ x) = omega (arith, ints) in
    rw (to_z-of_z w128 sum fits_sum, to_z-of_z w128 x fits_x, to_z-of_z w128 (sum +ℤ x) fits) refl

pub difference_stays : (sum x : ℤ) → IsOfSize (2 ^ 120) sum → IsOfSize (2 ^ 63) x → to_z w128 (of_z w128 (to_z w128 (of_z w128 sum) -ℤ to_z w128 (of_z w128 x))) ≡ sum -ℤ x
difference_stays sum x s t =
    let fits_sum : SFits w128 sum = omega (arith, ints) in
    let fits_x : SFits w128 x = omega (arith, ints) in
    let fits : SFits w128 (sum -ℤ x) = omega (arith, ints) in
    rw (to_z-of_z w128 sum fits_sum, to_z-of_z w128 x fits_x, to_z-of_z w128 (sum -ℤ x) fits) refl

-- an arc that leaves the set adds one of its bounds
pub leaving_sum : (set : ℕ → Bool) (a : ArcView) (sum x out back : ℤ) → IsOfSize (2 ^ 120) sum → IsOfSize (2 ^ 63) out → x ≡ to_z w64 (of_z w64 out) → SFits w64 out → true ≡ set a.tail → false ≡ set a.head
    → to_z w128 (of_z w128 (to_z w128 (of_z w128 sum) +ℤ to_z w128 (of_z w128 x))) ≡ (sum +ℤ when (leaves set a) out) -ℤ when (enters set a) back
leaving_sum set a sum x out back s t is fits tail head =
    let x_is : x ≡ out = is ∙ to_z-of_z w64 out fits in
    rw (← tail, ← head, x_is) (sum_stays sum out s t ∙ omega (arith, ints))

-- an arc that enters the set subtracts the other
pub entering_sum : (set : ℕ → Bool) (a : ArcView) (sum x out back : ℤ) → IsOfSize (2 ^ 120) sum → IsOfSize (2 ^ 63) back → x ≡ to_z w64 (of_z w64 back) → SFits w64 back → false ≡ set a.tail → true ≡ set a.head
    → to_z w128 (of_z w128 (to_z w128 (of_z w128 sum) -ℤ to_z w128 (of_z w128 x))) ≡ (sum +ℤ when (leaves set a) out) -ℤ when (enters set a) back
entering_sum set a sum x out back s t is fits tail head =
    let x_is : x ≡ back = is ∙ to_z-of_z w64 back fits in
    rw (← tail, ← head, x_is) (difference_stays sum back s t ∙ omega (arith, ints))

two_shares : (b c : Bool) (h : ℕ) (z x y : ℤ) → IsOfSize h z → IsOfSize (2 ^ 63) x → IsOfSize (2 ^ 63) y → IsOfSize (h + 2 ^ 64) ((z +ℤ when b x) -ℤ when c y)
two_shares true true h z x y s t u = omega (arith, ints)
two_shares true false h z x y s t u = omega (arith, ints)
two_shares false true h z x y s t u = omega (arith, ints)
two_shares false false h z x y s t u = omega (arith, ints)

-- one of the bounds, over the arcs so far
abbrev pub IsBoundOf : (ArcView → ℤ) → (ArcView → ℤ) → List ArcView → (ℕ → Bool) → ℕ → ℤ → Type 0
IsBoundOf out back arcs set i sum = (sum ≡ sum_where (leaves set) out (take i arcs) -ℤ sum_where (enters set) back (take i arcs)) × IsOfSize (i * 2 ^ 64) sum

pub bound_more : (out back : ArcView → ℤ) (arcs : List ArcView) (set : ℕ → Bool) (i : ℕ) (a : ArcView) (old new : ℤ) → slice_get arcs i ≡ Some a → IsOfSize (2 ^ 63) (out a) → IsOfSize (2 ^ 63) (back a)
    → IsBoundOf out back arcs set i old → new ≡ (old +ℤ when (leaves set a) (out a)) -ℤ when (enters set a) (back a) → IsBoundOf out back arcs set (i + 1) new
bound_more out back arcs set i a old new here s t was e =
    let u = two_shares (leaves set a) (enters set a) (i * 2 ^ 64) old (out a) (back a) was.1 s t in
    (omega (arith, ints, e, was.0, sum_where_more (leaves set) out arcs i a here, sum_where_more (enters set) back arcs i a here), rw e (omega (arith, ints, u)))

-- the supply of the nodes before v
abbrev pub IsSupplyOf : (ℕ → ℤ) → (ℕ → Bool) → ℕ → ℤ → Type 0
IsSupplyOf supply set v sum = (sum ≡ supply_in (v - 1) supply set) × IsOfSize (v * 2 ^ 64) sum

one_more_node : (supply : ℕ → ℤ) (set : ℕ → Bool) (v : ℕ) (old : ℤ) → 1 ≤ v → old ≡ supply_in (v - 1) supply set → old +ℤ when (set v) (supply v) ≡ supply_in (v + 1 - 1) supply set
one_more_node supply set zero old low is = absurd (omega (arith, low))
one_more_node supply set (suc v) old low is =
    let before : suc v - 1 ≡ v = omega arith in
    let after : suc v + 1 - 1 ≡ suc v = omega arith in
    rw (is, before, after) refl

pub supply_more : (supply : ℕ → ℤ) (set : ℕ → Bool) (v : ℕ) (old share x : ℤ) → 1 ≤ v → v ≤ most_nodes → IsSupplyOf supply set v old → IsOfSize (2 ^ 63) share → share ≡ when (set v) (supply v) → x ≡ to_z w64 (of_z w64 share) → SFits w64 share
    → IsSupplyOf supply set (v + 1) (to_z w128 (of_z w128 (old +ℤ to_z w128 (of_z w128 x))))
supply_more supply set v old share x low high was small is from fits =
    let x_is : x ≡ share = from ∙ to_z-of_z w64 share fits in
    let fits_share : SFits w128 share = omega (arith, ints) in
    let fits_sum : SFits w128 (old +ℤ share) = omega (arith, ints, was.1) in
    rw (x_is, to_z-of_z w128 share fits_share, to_z-of_z w128 (old +ℤ share) fits_sum) (omega (arith, ints, is, one_more_node supply set v old low was.0), omega (arith, ints, was.1))

when_nothing : (b : Bool) (x : ℤ) → x ≡ pos 0 → when b x ≡ pos 0
when_nothing true x none = none
when_nothing false x none = refl

-- the nodes between have no supply
pub skipped_supply : (supply : ℕ → ℤ) (set : ℕ → Bool) (from end to : ℕ) (sum : ℤ) → 1 ≤ from → Skips (λ v. supply v ≡ pos 0) from end to → IsSupplyOf supply set from sum → IsSupplyOf supply set to sum
skipped_supply supply set from end to sum low is =
    skipped _ (λ v. IsSupplyOf supply set v sum) from end to is
    (λ v least below none was. (omega (arith, ints, one_more_node supply set v sum (omega (arith, low, least)) was.0, when_nothing (set v) (supply v) none), omega (arith, ints, was.1)))
