-- Sums over nodes and over arcs.
use Rattle.std.proofs.Common.{◌≡◌, inl, inr, ℕ, suc, zero, ◌*◌, ◌==◌, ◌&&◌, Bool, true, false, not, List, [], ◌∷◌, All, length, ℤ, pos, neg_ℤ, ◌+ℤ◌, ◌-ℤ◌, ◌*ℤ◌, ◌≤ℤ◌, ◌<ℤ◌, refl, subst, arith}
use Rattle.std.proofs.{lemmas.Int.{ints}, lemmas.Bool.{cases_eq}, lemmas.List.Elements.{All-head, All-tail}}
use Rattle.std.specs.List.{AllZip}
use Rattle.dimacs_records.specs.Ranges.{IsWhole}
use Rattle.dimacs_lines.specs.Limits.{IsNode}
use Rattle.dimacs_network.specs.declared.network.ArcView.{ArcView}
use Rattle.dimacs_instance.specs.MinFlows.{HasBounds}
use Rattle.dimacs_judging.specs.{Cuts.{enters, leaves}, Flows.{net, sum_arcs, sum_nodes, when}}
use Rattle.dimacs_judging.specs.ViolatedSets.{sum_where}
use Rattle.dimacs_judging.proofs.Duality.{across}
use Rattle.dimacs_decide.specs.Bounds.{KeepsBounds}

-- ---- over nodes
pub sum_nodes-le : (f g : ℕ → ℤ) (n : ℕ) → ((v : ℕ) → IsNode n v → f v ≤ℤ g v) → sum_nodes f n ≤ℤ sum_nodes g n
sum_nodes-le f g zero each = omega (arith, ints)
sum_nodes-le f g (suc n) each = let here = each (suc n) (omega arith, omega arith) in omega (arith, ints, here, sum_nodes-le f g n (λ v h. each v (h.0, omega (arith, h.1))))

-- one term is less, and none is greater
pub sum_nodes-less : (f g : ℕ → ℤ) (n r : ℕ) → ((v : ℕ) → IsNode n v → f v ≤ℤ g v) → IsNode n r → f r <ℤ g r → sum_nodes f n <ℤ sum_nodes g n
sum_nodes-less f g zero r each node less = absurd (omega (arith, node.0, node.1))
sum_nodes-less f g (suc n) r each node less =
    let rest : (v : ℕ) → IsNode n v → f v ≤ℤ g v = λ v h. each v (h.0, omega (arith, h.1)) in
    elim (cases_eq r (suc n)) [
      | inl same ↦ let here : f (suc n) <ℤ g (suc n) = subst (λ u. f u <ℤ g u) same less in omega (arith, ints, here, sum_nodes-le f g n rest)
      | inr ne ↦
          let here = each (suc n) (omega arith, omega arith) in
          let inside : IsNode n r = (node.0, omega (arith, node.1, ne)) in
          omega (arith, ints, here, sum_nodes-less f g n r rest inside less)
    ]

when-split : (b : Bool) (s d : ℤ) → when b s ≡ when b (s -ℤ d) +ℤ when b d
when-split true s d = omega (arith, ints)
when-split false s d = omega (arith, ints)

-- the supply of a set is the sum of its nodes' excesses and balances
pub sum_nodes-split : (set : ℕ → Bool) (supply out : ℕ → ℤ) (n : ℕ) → sum_nodes (λ v. when (set v) (supply v)) n ≡ sum_nodes (λ v. when (set v) (supply v -ℤ out v)) n +ℤ sum_nodes (λ v. when (set v) (out v)) n
sum_nodes-split set supply out zero = omega (arith, ints)
sum_nodes-split set supply out (suc n) = let here = when-split (set (suc n)) (supply (suc n)) (out (suc n)) in omega (arith, ints, here, sum_nodes-split set supply out n)

-- ---- over arcs
crossing_term : (b d : Bool) (z out back : ℤ) → ((b && not d) ≡ true → z ≡ out) × ((d && not b) ≡ true → z ≡ back) → z *ℤ (when b (pos 1) -ℤ when d (pos 1)) ≡ when (b && not d) out -ℤ when (d && not b) back
crossing_term true true z out back h = omega (arith, ints)
crossing_term true false z out back h = omega (arith, ints, h.0 refl)
crossing_term false true z out back h = omega (arith, ints, h.1 refl)
crossing_term false false z out back h = omega (arith, ints)

-- the flow over the boundary of a set, if it is known for each arc
pub across_of : (out back : ArcView → ℤ) (set : ℕ → Bool) (arcs : List ArcView) (x : List ℤ) → AllZip (λ a z. (leaves set a ≡ true → z ≡ out a) × (enters set a ≡ true → z ≡ back a)) arcs x
    → across set arcs x ≡ sum_where (leaves set) out arcs -ℤ sum_where (enters set) back arcs
across_of out back set [] [] w = refl
across_of out back set [] (z ∷ x) w = absurd w
across_of out back set (a ∷ arcs) [] w = absurd w
across_of out back set (a ∷ arcs) (z ∷ x) w = omega (arith, ints, crossing_term (set a.tail) (set a.head) z (out a) (back a) w.0, across_of out back set arcs x w.1)

when_size : (b : Bool) (z : ℤ) → pos 0 ≤ℤ z → z ≤ℤ pos 9223372036854775807 → (pos 0 ≤ℤ when b z) × (when b z ≤ℤ pos 9223372036854775807)
when_size true z h g = (h, g)
when_size false z h g = (omega (arith, ints), omega (arith, ints))

arcs_size : (test : ArcView → Bool) (arcs : List ArcView) (x : List ℤ) → All HasBounds arcs → KeepsBounds arcs x
    → (pos 0 ≤ℤ sum_arcs (λ a z. when (test a) z) arcs x) × (sum_arcs (λ a z. when (test a) z) arcs x ≤ℤ pos (length arcs * 9223372036854775807))
arcs_size test [] [] has w = (omega (arith, ints), omega (arith, ints))
arcs_size test [] (z ∷ x) has w = absurd w
arcs_size test (a ∷ arcs) [] has w = absurd w
arcs_size test (a ∷ arcs) (z ∷ x) has w =
    let h = All-head HasBounds a arcs has in
    let whole : IsWhole a.cap = h.2 in
    let here = when_size (test a) z (omega (arith, ints, h.0, w.0.0)) (omega (arith, ints, whole.1, w.0.1)) in
    let rest = arcs_size test arcs x (All-tail HasBounds a arcs has) w.1 in
    (omega (arith, ints, here.0, rest.0), omega (arith, ints, here.1, rest.1))

-- the balance of a node is at most the number of arcs times the greatest capacity
pub net_size : (arcs : List ArcView) (x : List ℤ) (v : ℕ) → All HasBounds arcs → KeepsBounds arcs x
    → (neg_ℤ (pos (length arcs * 9223372036854775807)) ≤ℤ net arcs x v) × (net arcs x v ≤ℤ pos (length arcs * 9223372036854775807))
net_size arcs x v has w =
    let out = arcs_size (λ a. a.tail == v) arcs x has w in
    let back = arcs_size (λ a. a.head == v) arcs x has w in
    (omega (arith, ints, out, back), omega (arith, ints, out, back))
