-- No amounts between two nodes with the same sum cost less.
use Rattle.std.proofs.Common.{◌≡◌, ◌⊎◌, inl, inr, ℕ, zero, suc, ◌<◌, Bool, true, false, List, [], ◌∷◌, length, ℤ, pos, ◌+ℤ◌, ◌-ℤ◌, ◌*ℤ◌, ◌≤ℤ◌, ◌<ℤ◌, refl, ap, arith}
use Rattle.std.proofs.{lemmas.Int.{ints, by_lt_z}, lemmas.Bool.{cases_Bool}}
use Rattle.dimacs_network.specs.{declared.network.ArcView.{ArcView}, Arcs.{joins, arc_at}}
use Rattle.dimacs_judging.specs.{Flows.{when}, Rows.{amount_at}}
use Rattle.dimacs_judging.proofs.Products.{mul_add, mul_sub, mul_comm, mul_le, mul_ge}
use Rattle.dimacs_solve.specs.Spread.{KeepsBounds, arc_cost, arc_sum}
use Rattle.dimacs_solve.proofs.SumLemmas.{kept_at, kept_long}

-- ---- the price of two ends: the cost of the dearest raised arc between them
record IsPrice (arcs : List ArcView) (x : List ℤ) (least : ℤ) (tail head : ℕ) (price : ℤ) : Type 0 where
  above : (k : ℕ) → k < length arcs → joins tail head (arc_at arcs k) ≡ true → (arc_at arcs k).low <ℤ amount_at x k → (arc_at arcs k).cost ≤ℤ price
  asked : (price ≡ least) ⊎ ((k : ℕ) × (k < length arcs) × (joins tail head (arc_at arcs k) ≡ true) × ((arc_at arcs k).low <ℤ amount_at x k) × ((arc_at arcs k).cost ≡ price))

price_kept : (a : ArcView) (z : ℤ) (arcs : List ArcView) (x : List ℤ) (least : ℤ) (tail head : ℕ) (p : ℤ) → (joins tail head a ≡ true → a.low <ℤ z → a.cost ≤ℤ p) → IsPrice arcs x least tail head p → IsPrice (a ∷ arcs) (z ∷ x) least tail head p
price_kept a z arcs x least tail head p here is = record {
  above = above;
  asked = elim is.asked [ inl e ↦ inl e | inr t ↦ inr (suc t.0, omega (arith, t.1), t.2, t.3, t.4) ];
}
  where
    above : (k : ℕ) → k < length (a ∷ arcs) → joins tail head (arc_at (a ∷ arcs) k) ≡ true → (arc_at (a ∷ arcs) k).low <ℤ amount_at (z ∷ x) k → (arc_at (a ∷ arcs) k).cost ≤ℤ p
    above zero inside joined raised = here joined raised
    above (suc k) inside joined raised = is.above k (omega (arith, inside)) joined raised

price_raised : (a : ArcView) (z : ℤ) (arcs : List ArcView) (x : List ℤ) (least : ℤ) (tail head : ℕ) (p : ℤ) → joins tail head a ≡ true → a.low <ℤ z → p ≤ℤ a.cost → IsPrice arcs x least tail head p → IsPrice (a ∷ arcs) (z ∷ x) least tail head a.cost
price_raised a z arcs x least tail head p joined raised more is = record {
  above = above;
  asked = inr (0, omega arith, joined, raised, refl);
}
  where
    above : (k : ℕ) → k < length (a ∷ arcs) → joins tail head (arc_at (a ∷ arcs) k) ≡ true → (arc_at (a ∷ arcs) k).low <ℤ amount_at (z ∷ x) k → (arc_at (a ∷ arcs) k).cost ≤ℤ a.cost
    above zero inside j r = omega (arith, ints)
    above (suc k) inside j r = omega (arith, ints, more, is.above k (omega (arith, inside)) j r)

price_of : (arcs : List ArcView) (x : List ℤ) (least : ℤ) (tail head : ℕ) → length x ≡ length arcs → (p : ℤ) × IsPrice arcs x least tail head p
price_of [] x least tail head long = (least, record { above = λ k inside. absurd (omega (arith, inside)); asked = inl refl })
price_of (a ∷ arcs) [] least tail head long = absurd (omega (arith, long))
price_of (a ∷ arcs) (z ∷ x) least tail head long =
    let (p, is) = price_of arcs x least tail head (omega (arith, long)) in
    let kept : (joins tail head a ≡ true → a.low <ℤ z → a.cost ≤ℤ p) → (q : ℤ) × IsPrice (a ∷ arcs) (z ∷ x) least tail head q = λ here. (p, price_kept a z arcs x least tail head p here is) in
    elim (cases_Bool (joins tail head a)) [
      | inl joined ↦ by_lt_z a.low z
          (λ raised. by_lt_z p a.cost (λ more. (a.cost, price_raised a z arcs x least tail head p joined raised (omega (arith, ints, more)) is)) (λ less. kept (λ j r. omega (arith, ints, less))))
          (λ not. kept (λ j r. absurd (omega (arith, ints, not, r))))
      | inr off ↦ kept (λ j r. absurd (cc))
    ]

-- ---- costs
-- an arc dearer than the price is at its lower bound, and a cheaper one is full: no other amount is better
cheaper_term : (c p x y low cap : ℤ) → (low <ℤ x → c ≤ℤ p) → (c <ℤ p → x ≡ cap) → low ≤ℤ y → y ≤ℤ cap → (c *ℤ x +ℤ p *ℤ y) ≤ℤ (c *ℤ y +ℤ p *ℤ x)
cheaper_term c p x y low cap dear cheap above below =
    let r = c -ℤ p in
    let split : (z : ℤ) → r *ℤ z ≡ c *ℤ z -ℤ p *ℤ z = λ z. omega (arith, ints, mul_comm r z, mul_sub z c p, mul_comm z c, mul_comm z p) in
    let least : (r *ℤ x) ≤ℤ (r *ℤ y) =
    by_lt_z c p (λ less. let full = cheap less in mul_ge r y x (omega (arith, ints, less)) (omega (arith, ints, full, below)))
    (λ not. by_lt_z low x
    (λ raised. let e : r ≡ pos 0 = omega (arith, ints, dear raised, not) in rw e (omega (arith, ints)))
    (λ at_low. mul_le r x y (omega (arith, ints, not)) (omega (arith, ints, at_low, above)))) in
    omega (arith, ints, least, split x, split y)

-- the same of an arc that may have other ends
when_cheaper : (b : Bool) (c p x y : ℤ) → (b ≡ true → (c *ℤ x +ℤ p *ℤ y) ≤ℤ (c *ℤ y +ℤ p *ℤ x)) → (when b (c *ℤ x) +ℤ p *ℤ when b y) ≤ℤ (when b (c *ℤ y) +ℤ p *ℤ when b x)
when_cheaper true c p x y less = less refl
when_cheaper false c p x y less = omega (arith, ints)

cheaper_sums : (p : ℤ) (arcs : List ArcView) (x y : List ℤ) (tail head : ℕ) → length x ≡ length arcs → length y ≡ length arcs
    → ((k : ℕ) → k < length arcs → joins tail head (arc_at arcs k) ≡ true → ((arc_at arcs k).cost *ℤ amount_at x k +ℤ p *ℤ amount_at y k) ≤ℤ ((arc_at arcs k).cost *ℤ amount_at y k +ℤ p *ℤ amount_at x k))
    → (arc_cost arcs x tail head +ℤ p *ℤ arc_sum arcs y tail head) ≤ℤ (arc_cost arcs y tail head +ℤ p *ℤ arc_sum arcs x tail head)
cheaper_sums p [] x y tail head l m each = omega (arith, ints)
cheaper_sums p (a ∷ arcs) [] y tail head l m each = absurd (omega (arith, l))
cheaper_sums p (a ∷ arcs) (u ∷ x) [] tail head l m each = absurd (omega (arith, m))
cheaper_sums p (a ∷ arcs) (u ∷ x) (v ∷ y) tail head l m each =
    let b = joins tail head a in
    let here = when_cheaper b a.cost p u v (each 0 (omega arith)) in
    let others = cheaper_sums p arcs x y tail head (omega (arith, l)) (omega (arith, m)) (λ k h. each (suc k) (omega (arith, h))) in
    omega (arith, ints, here, others, mul_add p (when b u) (arc_sum arcs x tail head), mul_add p (when b v) (arc_sum arcs y tail head))

-- of these arcs, those cheaper than one above its lower bound are full
abbrev pub CheaperAreFull : List ArcView → List ℤ → ℕ → ℕ → Type 0
CheaperAreFull arcs x tail head =
    (i j : ℕ) → i < length arcs → j < length arcs → joins tail head (arc_at arcs i) ≡ true → joins tail head (arc_at arcs j) ≡ true
    → (arc_at arcs i).cost <ℤ (arc_at arcs j).cost → (arc_at arcs j).low <ℤ amount_at x j → amount_at x i ≡ (arc_at arcs i).cap

pub none_cheaper : (arcs : List ArcView) (least : ℤ) (x y : List ℤ) (tail head : ℕ) → ((k : ℕ) → k < length arcs → least ≤ℤ (arc_at arcs k).cost) → length x ≡ length arcs → CheaperAreFull arcs x tail head
    → KeepsBounds arcs y tail head → arc_sum arcs x tail head ≡ arc_sum arcs y tail head → arc_cost arcs x tail head ≤ℤ arc_cost arcs y tail head
none_cheaper arcs least x y tail head above long cheaper keeps same =
    let (p, is) = price_of arcs x least tail head long in
    let full : (k : ℕ) → k < length arcs → joins tail head (arc_at arcs k) ≡ true → (arc_at arcs k).cost <ℤ p → amount_at x k ≡ (arc_at arcs k).cap = λ k inside joined less. elim is.asked [
      | inl e ↦ absurd (omega (arith, ints, e, less, above k inside))
      | inr t ↦ cheaper k t.0 inside t.1 joined t.2 (omega (arith, ints, less, t.4)) t.3
    ] in
    let terms = cheaper_sums p arcs x y tail head long (kept_long arcs y tail head keeps) (λ k inside joined.
    let within = kept_at arcs y tail head k keeps inside joined in
    cheaper_term (arc_at arcs k).cost p (amount_at x k) (amount_at y k) (arc_at arcs k).low (arc_at arcs k).cap (is.above k inside joined) (full k inside joined) within.0 within.1) in
    let e : p *ℤ arc_sum arcs x tail head ≡ p *ℤ arc_sum arcs y tail head = ap (λ s. p *ℤ s) same in
    omega (arith, ints, terms, e)
