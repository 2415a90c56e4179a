-- A flow that is the only one of its cost, and how many arcs have the reduced cost 0.
use Rattle.std.proofs.Common.{◌≡◌, ℕ, suc, ◌+◌, ◌<◌, ◌≤◌, Bool, true, false, cond, List, [], ◌∷◌, length, take, ℤ, pos, ◌≤ℤ◌, Some, slice_get, int_eq, refl, ap, arith}
use Rattle.std.proofs.{lemmas.Bool.Decides.{Decides-int_eq}, lemmas.List.Sums.{sum_by_more, sum_by-take-le}}
use Rattle.std.proofs.lemmas.Option.{get_or_from_slice_get, slice_get_within}
use Rattle.std.specs.List.{AllZip}
use Rattle.dimacs_network.specs.{declared.network.ArcView.{ArcView}, Arcs.{arc_at, no_arc}}
use Rattle.dimacs_claims.specs.Potentials.{PotentialsValue, potential_of}
use Rattle.dimacs_judging.specs.{Laws.{SameCostLaw}, Potentials.{reduced_cost}, Rows.{amount_at}}
use Rattle.dimacs_facts.specs.Facts.{NoneTight, OnlyFlowLaw, one_tight, tight_count}

abbrev IsWithin : ArcView → ℤ → Type 0
IsWithin a x = (a.low ≤ℤ x) × (x ≤ℤ a.cap)

within_length : (arcs : List ArcView) (x : List ℤ) → AllZip IsWithin arcs x → length x ≡ length arcs
within_length [] [] w = refl
within_length [] (q ∷ x) w = absurd w
within_length (a ∷ arcs) [] w = absurd w
within_length (a ∷ arcs) (q ∷ x) w = omega (arith, within_length arcs x w.1)

same_list : (x y : List ℤ) → length x ≡ length y → ((k : ℕ) → k < length x → amount_at x k ≡ amount_at y k) → x ≡ y
same_list [] [] e f = refl
same_list [] (b ∷ y) e f = absurd (omega (arith, e))
same_list (a ∷ x) [] e f = absurd (omega (arith, e))
same_list (a ∷ x) (b ∷ y) e f =
    let h : a ≡ b = f 0 (omega (arith)) in
    let t : x ≡ y = same_list x y (omega (arith, e)) (λ k below. f (suc k) (omega (arith, below))) in
    rw (h, t) refl

pub only_flow : SameCostLaw → OnlyFlowLaw
only_flow law i joined x y p feasible slack none other le =
    let long : length x ≡ length i.arcs = within_length i.arcs x feasible.within in
    same_list x y (omega (arith, long, within_length i.arcs y other.within))
    (λ k below. law i joined x y p feasible slack other le k (omega (arith, below, long)) (none k (omega (arith, below, long))))

-- an arc counts once at most
pub once : (p : PotentialsValue) (a : ArcView) → one_tight p a ≤ 1
once p a = at_most (int_eq (reduced_cost (potential_of p) a) (pos 0))
  where
    at_most : (b : Bool) → cond b 1 0 ≤ 1
    at_most true = omega arith
    at_most false = omega arith

-- an arc counts if its reduced cost is 0
pub counts : (p : PotentialsValue) (a : ArcView) → reduced_cost (potential_of p) a ≡ pos 0 → one_tight p a ≡ 1
counts p a tight = ap (λ b. cond b 1 0) ((Decides-int_eq (reduced_cost (potential_of p) a) (pos 0)).1 tight)

-- the count of the first arcs, and of one more
pub one_more : (arcs : List ArcView) (p : PotentialsValue) (i : ℕ) (a : ArcView) → slice_get arcs i ≡ Some a → tight_count (take (i + 1) arcs) p ≡ tight_count (take i arcs) p + one_tight p a
one_more arcs p i a here = rw (← get_or_from_slice_get arcs i a no_arc here) (sum_by_more (one_tight p) arcs i no_arc (slice_get_within arcs i a here))

-- arcs of which none counts aren't tight
pub none_tight : (arcs : List ArcView) (p : PotentialsValue) → tight_count arcs p ≡ 0 → NoneTight arcs (potential_of p)
none_tight arcs p none k below tight =
    let more = sum_by_more (one_tight p) arcs k no_arc below in
    omega (arith, none, more, counts p (arc_at arcs k) tight, sum_by-take-le (one_tight p) arcs (k + 1))
