-- Augmentation flow along a path whose ranks fall from its end to its root.
use Rattle.std.proofs.Common.{◌≡◌, ◌≢◌, ℕ, suc, zero, ◌==◌, ◌<◌, ℤ, pos, ◌+ℤ◌, ◌-ℤ◌, ◌≤ℤ◌, Bool, true, false, neg_ℤ, List, [], ◌∷◌, length, get_or, set, refl, sym, ap, subst, ◌∙◌, arith, w64, SFits}
use Rattle.std.proofs.{lemmas.Int.{ints}, lemmas.List.{get_or-set_other, get_or-set_same}}
use Rattle.std.proofs.lemmas.Slice.Zip.{AllZip-long}
use Rattle.std.specs.List.{AllZip}
use Rattle.dimacs_network.specs.{declared.network.ArcView.{ArcView}, Arcs.{no_arc, arc_at}}
use Rattle.dimacs_network.specs.{declared.adjacency_lists.Side.{Side}, AdjacencyLists.{end_of, other_end}}
use Rattle.dimacs_network.specs.declared.adjacency_lists.Side.TheVariants.{Tail, Head}
use Rattle.dimacs_records.specs.Ranges.{IsWhole}
use Rattle.dimacs_judging.specs.{Flows.{sum_arcs, when, net}, Rows.{amount_at}}
use Rattle.dimacs_judging.proofs.Passing.{pair_at}
use Rattle.dimacs_decide.specs.{declared.search.Visit.{Visit}, Bounds.{KeepsBounds}, inside.Raising.{Pushed, IsRaising}}
use Rattle.dimacs_decide.specs.inside.ResidualCapacities.{carried_after, residual_capacity_at}
use Rattle.dimacs_decide.specs.inside.Residual.{IsReachedBy, rank_of, parent_arc_of}

-- ---- one amount changes
pub sum_arcs-set : (f : ArcView → ℤ → ℤ) (arcs : List ArcView) (y : List ℤ) (k : ℕ) (z : ℤ) → k < length arcs → k < length y
    → sum_arcs f arcs (set y k z) +ℤ f (arc_at arcs k) (amount_at y k) ≡ sum_arcs f arcs y +ℤ f (arc_at arcs k) z
sum_arcs-set f [] y k z h g = absurd (omega arith)
sum_arcs-set f (a ∷ arcs) [] k z h g = absurd (omega arith)
sum_arcs-set f (a ∷ arcs) (x ∷ y) zero z h g = omega (arith, ints)
sum_arcs-set f (a ∷ arcs) (x ∷ y) (suc k) z h g = omega (arith, ints, sum_arcs-set f arcs y k z (omega arith) (omega arith))

when-add : (b : Bool) (x z : ℤ) → when b (x +ℤ z) ≡ when b x +ℤ when b z
when-add true x z = refl
when-add false x z = refl

pub when-neg : (b : Bool) (x : ℤ) → when b (neg_ℤ x) ≡ neg_ℤ (when b x)
when-neg true x = refl
when-neg false x = refl

-- z more on arc k
pub net-raise : (arcs : List ArcView) (y : List ℤ) (k : ℕ) (z : ℤ) (u : ℕ) → k < length arcs → k < length y
    → net arcs (set y k (amount_at y k +ℤ z)) u ≡ (net arcs y u +ℤ when ((arc_at arcs k).tail == u) z) -ℤ when ((arc_at arcs k).head == u) z
net-raise arcs y k z u h g =
    let x = amount_at y k in
    omega (arith, ints, sum_arcs-set (λ a w. when (a.tail == u) w) arcs y k (x +ℤ z) h g, sum_arcs-set (λ a w. when (a.head == u) w) arcs y k (x +ℤ z) h g, when-add ((arc_at arcs k).tail == u) x z, when-add ((arc_at arcs k).head == u) x z)

pub AllZip-set : {A B : Type 0} (R : A → B → Type 0) (xs : List A) (ys : List B) (k : ℕ) (d : A) (z : B) → AllZip R xs ys → R (get_or xs k d) z → AllZip R xs (set ys k z)
AllZip-set R [] [] k d z all here = tt
AllZip-set R [] (y ∷ ys) k d z all here = absurd all
AllZip-set R (x ∷ xs) [] k d z all here = absurd all
AllZip-set R (x ∷ xs) (y ∷ ys) zero d z all here = (here, all.1)
AllZip-set R (x ∷ xs) (y ∷ ys) (suc k) d z all here = (all.0, AllZip-set R xs ys k d z all.1 here)

-- the new amount keeps the bounds of its arc
pub within_at : (arcs : List ArcView) (y : List ℤ) (k : ℕ) (z : ℤ) → KeepsBounds arcs (set y k z) → k < length arcs → k < length y → ((arc_at arcs k).low ≤ℤ z) × (z ≤ℤ (arc_at arcs k).cap)
within_at arcs y k z within h long = rw (get_or-set_same y k z (pos 0) long) at (pair_at _ arcs (set y k z) k no_arc (pos 0) within h)

-- ---- the amount that was sent
-- along an arc whose other end is nearer to the root
push : (side : Side) (arcs : List ArcView) (rank : ℕ → ℕ) (x y : List ℤ) (t k : ℕ) (amount : ℤ) → Pushed arcs rank x y t (other_end side (arc_at arcs k)) amount → k < length arcs
    → rank (end_of side (arc_at arcs k)) < rank (other_end side (arc_at arcs k)) → pos 0 ≤ℤ amount → amount ≤ℤ residual_capacity_at side (arc_at arcs k) (amount_at x k)
    → Pushed arcs rank x (set y k (carried_after side amount (amount_at y k))) t (end_of side (arc_at arcs k)) amount
push Tail arcs rank x y t k amount p h falls some residual_capacity =
    let long : k < length y = omega (arith, h, AllZip-long _ arcs y p.within) in
    let same = p.below k h (omega (arith, falls)) (omega arith) in
    let now = pair_at _ arcs y k no_arc (pos 0) p.within h in
    record {
      within = AllZip-set (λ a z. (a.low ≤ℤ z) × (z ≤ℤ a.cap)) arcs y k no_arc _ p.within (omega (arith, ints, now, same, residual_capacity, some));
      balance = λ u. omega (arith, ints, p.balance u, net-raise arcs y k amount u h long);
      below = λ j l s t. get_or-set_other y k j _ (pos 0) (λ e. let f : rank (arc_at arcs j).head ≡ rank (arc_at arcs k).head = ap (λ m. rank (arc_at arcs m).head) e in omega (arith, f, t, falls)) ∙ p.below j l (omega (arith, s, falls)) (omega (arith, t, falls));
    }
push Head arcs rank x y t k amount p h falls some residual_capacity =
    let long : k < length y = omega (arith, h, AllZip-long _ arcs y p.within) in
    let same = p.below k h (omega arith) (omega (arith, falls)) in
    let now = pair_at _ arcs y k no_arc (pos 0) p.within h in
    record {
      within = AllZip-set (λ a z. (a.low ≤ℤ z) × (z ≤ℤ a.cap)) arcs y k no_arc _ p.within (omega (arith, ints, now, same, residual_capacity, some));
      balance = λ u. omega (arith, ints, p.balance u, net-raise arcs y k (neg_ℤ amount) u h long, when-neg ((arc_at arcs k).tail == u) amount, when-neg ((arc_at arcs k).head == u) amount);
      below = λ j l s t. get_or-set_other y k j _ (pos 0) (λ e. let f : rank (arc_at arcs j).tail ≡ rank (arc_at arcs k).tail = ap (λ m. rank (arc_at arcs m).tail) e in omega (arith, f, s, falls)) ∙ p.below j l (omega (arith, s, falls)) (omega (arith, t, falls));
    }

-- ---- one step back on the path
module _ {arcs : List ArcView} {x y : List ℤ} {visits : ℕ → Visit} {t at : ℕ} {amount : ℤ}
    (now : IsRaising arcs x y visits t at amount) (by : IsReachedBy arcs x visits at) where
  abbrev k : ℕ
  k = parent_arc_of visits at

  pub long : k < length y
  long = omega (arith, by.within, AllZip-long _ arcs y now.pushed.within)

  --   the arc wasn't taken from the node to which it leads
  pub apart : end_of by.side (arc_at arcs k) ≢ at
  apart e = let f = ap (rank_of visits) e in omega (arith, f, by.rank)

  pub step : IsRaising arcs x (set y k (carried_after by.side amount (amount_at y k))) visits t (end_of by.side (arc_at arcs k)) amount
  step = record {
    reached = by.reached;
    positive = now.positive;
    residual_capacity = omega (arith, ints, now.residual_capacity, by.before);
    pushed = push by.side arcs (rank_of visits) x y t k amount (rw by.to now.pushed) by.within (rw by.to by.rank) (omega (arith, ints, now.positive)) (omega (arith, ints, by.residual_capacity, now.residual_capacity));
  }

  --   the arc, and the side that was found for it
  module _ {a : ArcView} (is : arc_at arcs k ≡ a) {side : Side} (outcome : (s : Side) → other_end s a ≡ at → end_of s a ≢ at → side ≡ s) where
    side_is : side ≡ by.side
    side_is = outcome by.side (subst (λ (b : ArcView). other_end by.side b ≡ at) is by.to) (λ e. apart (subst (λ (b : ArcView). end_of by.side b ≡ at) (sym is) e))

    pub falls : rank_of visits (end_of side a) < rank_of visits at
    falls = rw (side_is, ← is) by.rank

    pub raised : IsRaising arcs x (set y k (carried_after side amount (amount_at y k))) visits t (end_of side a) amount
    raised = rw (side_is, ← is) step

    pub whole : SFits w64 a.low → SFits w64 a.cap → IsWhole (carried_after side amount (amount_at y k))
    whole low high =
        let between = within_at arcs y k (carried_after by.side amount (amount_at y k)) step.pushed.within by.within long in
        let bounds : (a.low ≤ℤ carried_after by.side amount (amount_at y k)) × (carried_after by.side amount (amount_at y k) ≤ℤ a.cap) = rw is at between in
        rw side_is (omega (arith, ints, low, high, bounds))
