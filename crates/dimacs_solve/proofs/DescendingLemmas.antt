-- One more, better flow.
use Rattle.std.proofs.Common.{Bool, true, false, ◌≡◌, inl, inr, ℕ, suc, zero, ◌+◌, ◌<◌, ℤ, pos, ◌≤ℤ◌, List, [], ◌∷◌, ◌++◌, All, length, map, refl, arith}
use Rattle.std.proofs.{lemmas.Int.{ints}, lemmas.List.{length-append}}
use Rattle.std.proofs.lemmas.List.Elements.{All-push, All-nil, All-weaker, All-head, All-tail}
use Rattle.std.specs.{Int.Signed.{lt_z}, Prelude.{if◌then◌else◌}}
use Rattle.dimacs_lines.specs.Limits.{IsNode}
use Rattle.dimacs_network.specs.{declared.network.ArcView.{ArcView}, Arcs.{arc_at}}
use Rattle.dimacs_instance.specs.MinFlows.{HasBounds, IsMin, MinValue, positive_part}
use Rattle.dimacs_judging.specs.{Feasible.{FeasibleMin}, Flows.{sum_nodes}, Optimum.{Least}, Rows.{amount_at}}
use Rattle.dimacs_decide.specs.{Bounds.{KeepsBounds}, FeasibilityDecision.{imbalance_at, total_excess}}
use Rattle.dimacs_decide.proofs.ExcessLemmas.{excess_some}
use Rattle.dimacs_solve.specs.Descending.{AreImproving, IsBetter, StartsCheap, TakesMoreSteps, start_flow}

-- ---- excess
sum_none : (f : ℕ → ℤ) (n : ℕ) → ((v : ℕ) → IsNode n v → f v ≡ pos 0) → sum_nodes f n ≡ pos 0
sum_none f zero none = refl
sum_none f (suc n) none = let here = none (suc n) (omega arith, omega arith) in omega (arith, ints, here, sum_none f n (λ v h. none v (h.0, omega (arith, h.1))))

part_zero : (z : ℤ) → z ≡ pos 0 → pos (positive_part z) ≡ pos 0
part_zero z e = rw e refl

excess_none : (i : MinValue) (x : List ℤ) → FeasibleMin i x → total_excess i x ≡ pos 0
excess_none i x f = sum_none (λ v. pos (positive_part (imbalance_at i x v))) i.nodes (λ v h. part_zero (imbalance_at i x v) (omega (arith, ints, f.balanced v h)))

-- ---- being better is transitive
pub better_then : (i : MinValue) (x y z : List ℤ) → IsBetter i x y → IsBetter i y z → IsBetter i x z
better_then i x y z (inl a) (inl b) = inl (omega (arith, ints, a, b))
better_then i x y z (inl a) (inr b) = inl (omega (arith, ints, a, excess_none i y b.0, excess_none i z b.1))
better_then i x y z (inr a) (inl b) = absurd (omega (arith, ints, b, excess_none i y a.1, excess_some i z))
better_then i x y z (inr a) (inr b) = inr (a.0, b.1, omega (arith, ints, a.2, b.2))

-- ---- the flows so far, and the one to test next
pub record IsAtStep (i : MinValue) (n : ℕ) (now : List ℤ) : Type 0 where
  pub earlier : List (List ℤ)
  pub count : length earlier ≡ n
  pub starts : StartsCheap i (earlier ++ now ∷ [])
  pub improving : AreImproving i earlier
  pub better : All (λ x. IsBetter i x now) earlier
  pub within : KeepsBounds i.arcs now

improving_push : (i : MinValue) (flows : List (List ℤ)) (now : List ℤ) → AreImproving i flows → All (λ x. IsBetter i x now) flows → KeepsBounds i.arcs now → (¬ Least i now) → AreImproving i (flows ++ now ∷ [])
improving_push i [] now r more w n = (w, n, All-nil _, tt)
improving_push i (x ∷ flows) now r more w n =
    (r.0, r.1, All-push (IsBetter i x) flows now r.2 (All-head (λ z. IsBetter i z now) x flows more), improving_push i flows now r.3 (All-tail (λ z. IsBetter i z now) x flows more) w n)

starts_push : (i : MinValue) (flows : List (List ℤ)) (now next : List ℤ) → StartsCheap i (flows ++ now ∷ []) → StartsCheap i ((flows ++ now ∷ []) ++ next ∷ [])
starts_push i [] now next s = s
starts_push i (x ∷ flows) now next s = s

pub next_step : (i : MinValue) (n : ℕ) (now next : List ℤ) → IsAtStep i n now → (¬ Least i now) → KeepsBounds i.arcs next → IsBetter i now next → IsAtStep i (n + 1) next
next_step i n now next at below within this = record {
  earlier = at.earlier ++ now ∷ [];
  count = omega (arith, length-append at.earlier (now ∷ []), at.count);
  starts = starts_push i at.earlier now next at.starts;
  improving = improving_push i at.earlier now at.improving at.better at.within below;
  better = All-push (λ x. IsBetter i x next) at.earlier now (All-weaker (λ x. IsBetter i x now) (λ x. IsBetter i x next) (λ x b. better_then i x now next b this) at.earlier at.better) this;
  within = within;
}

pub out_of_steps : (i : MinValue) (n limit : ℕ) (now : List ℤ) → n ≡ limit → IsAtStep i n now → (¬ Least i now) → TakesMoreSteps i limit
out_of_steps i n limit now e at below = record {
  flows = at.earlier ++ now ∷ [];
  count = omega (arith, length-append at.earlier (now ∷ []), at.count, e);
  starts = at.starts;
  improving = improving_push i at.earlier now at.improving at.better at.within below;
}

-- ---- the start flow
between : (test : Bool) (low cap : ℤ) → low ≤ℤ cap → (low ≤ℤ (if test then cap else low)) × ((if test then cap else low) ≤ℤ cap)
between true low cap h = (h, omega (arith, ints))
between false low cap h = (omega (arith, ints), h)

start_within : (arcs : List ArcView) → All HasBounds arcs → KeepsBounds arcs (start_flow arcs)
start_within [] has = tt
start_within (a ∷ arcs) has = let h = All-head HasBounds a arcs has in (between (lt_z a.cost (pos 0)) a.low a.cap h.1, start_within arcs (All-tail HasBounds a arcs has))

pub first_step : (i : MinValue) (y : List ℤ) → IsMin i → y ≡ start_flow i.arcs → IsAtStep i 0 y
first_step i y law e = record { earlier = []; count = refl; starts = e; improving = tt; better = All-nil _; within = rw e (start_within i.arcs law.bounds) }

pub same_as_map : (f : ArcView → ℤ) (arcs : List ArcView) (y : List ℤ) → length y ≡ length arcs → ((k : ℕ) → k < length arcs → amount_at y k ≡ f (arc_at arcs k)) → y ≡ map f arcs
same_as_map f [] [] same each = refl
same_as_map f [] (z ∷ y) same each = absurd (omega (arith, same))
same_as_map f (a ∷ arcs) [] same each = absurd (omega (arith, same))
same_as_map f (a ∷ arcs) (z ∷ y) same each =
    let here : z ≡ f a = each 0 (omega arith) in
    let rest = same_as_map f arcs y (omega (arith, same)) (λ k h. each (suc k) (omega (arith, h))) in
    rw (here, rest) refl
