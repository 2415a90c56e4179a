-- Flows that cost as little as one with slack potentials.
use Rattle.std.proofs.Common.{◌≡◌, ◌≢◌, ℕ, zero, suc, ◌<◌, List, [], ◌∷◌, length, ℤ, pos, ◌+ℤ◌, ◌*ℤ◌, ◌≤ℤ◌, ◌<ℤ◌, arith}
use Rattle.std.proofs.lemmas.Int.{ints, by_lt_z}
use Rattle.std.specs.List.{All, AllZip}
use Rattle.dimacs_network.specs.{declared.network.ArcView.{ArcView}, Arcs.{JoinsNodes, arc_at}}
use Rattle.dimacs_instance.specs.MinFlows.{MinValue}
use Rattle.dimacs_judging.specs.{Flows.{cost, sum_arcs}, Feasible.{FeasibleMin}, Rows.{amount_at}}
use Rattle.dimacs_judging.specs.Potentials.{IsSlackAt, Slack, reduced_cost}
use Rattle.dimacs_judging.proofs.{Products.{mul_add, mul_le, mul_ge}, Sums.{sum_arcs-le}}
use Rattle.dimacs_judging.proofs.Duality.{cost_is, paid, slack_term}

abbrev IsWithin : ArcView → ℤ → Type 0
IsWithin a x = (a.low ≤ℤ x) × (x ≤ℤ a.cap)

-- if a reduced cost isn't 0, an amount that pays no more than the least is the same amount
same_amount : (r x z low cap : ℤ) → r ≢ pos 0 → (pos 0 <ℤ r → x ≡ low) × (r <ℤ pos 0 → x ≡ cap) → (low ≤ℤ z) × (z ≤ℤ cap) → (r *ℤ z) ≤ℤ (r *ℤ x) → x ≡ z
same_amount r x z low cap some s w le =
    by_lt_z (pos 0) r (λ h. by_lt_z x z
    (λ less. absurd (omega (arith, ints, mul_le r (x +ℤ pos 1) z (omega (arith, ints)) (omega (arith, ints)), mul_add r x (pos 1), le)))
    (λ more. omega (arith, ints, s.0 h, w.0, more))) (λ h.
    by_lt_z r (pos 0) (λ k. by_lt_z z x
    (λ less. absurd (omega (arith, ints, mul_ge r (z +ℤ pos 1) x (omega (arith, ints)) (omega (arith, ints)), mul_add r z (pos 1), le)))
    (λ more. omega (arith, ints, s.1 k, w.1, more))) (λ k.
    let e : r ≡ pos 0 = omega (arith, ints) in absurd (some e)))

same_amounts : (p : ℕ → ℤ) (arcs : List ArcView) (x y : List ℤ) → AllZip (IsSlackAt p) arcs x → AllZip IsWithin arcs y → sum_arcs (paid p) arcs y ≤ℤ sum_arcs (paid p) arcs x
    → (k : ℕ) → k < length arcs → reduced_cost p (arc_at arcs k) ≢ pos 0 → amount_at x k ≡ amount_at y k
same_amounts p [] x y s w le k below some = absurd (omega (arith, below))
same_amounts p (a ∷ arcs) [] y s w le k below some = absurd s
same_amounts p (a ∷ arcs) (q ∷ x) [] s w le k below some = absurd w
same_amounts p (a ∷ arcs) (q ∷ x) (z ∷ y) s w le zero below some =
    let rest = sum_arcs-le (paid p) _ _ (λ b u v t r. slack_term (reduced_cost p b) u v b.low b.cap t r) arcs x y s.1 w.1 in
    same_amount (reduced_cost p a) q z a.low a.cap some s.0 w.0 (omega (arith, ints, le, rest))
same_amounts p (a ∷ arcs) (q ∷ x) (z ∷ y) s w le (suc k) below some =
    let here = slack_term (reduced_cost p a) q z a.low a.cap s.0 w.0 in
    same_amounts p arcs x y s.1 w.1 (omega (arith, ints, le, here)) k (omega (arith, below)) some

pub same_cost : (i : MinValue) → All (JoinsNodes i.nodes) i.arcs → (x y : List ℤ) (p : ℕ → ℤ) → FeasibleMin i x → Slack i.arcs x p → FeasibleMin i y → cost i.arcs y ≤ℤ cost i.arcs x
    → (k : ℕ) → k < length i.arcs → reduced_cost p (arc_at i.arcs k) ≢ pos 0 → amount_at x k ≡ amount_at y k
same_cost i ends x y p f slack g le =
    same_amounts p i.arcs x y slack g.within (omega (arith, ints, le, cost_is i p x ends f, cost_is i p y ends g))
