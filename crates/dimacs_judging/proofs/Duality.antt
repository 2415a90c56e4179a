-- What tight cuts, slack potentials and violated sets show.
use Rattle.std.proofs.Common.{◌≡◌, ◌≢◌, inl, inr, ℕ, ℤ, pos, ◌+ℤ◌, ◌-ℤ◌, ◌*ℤ◌, ◌≤ℤ◌, ◌<ℤ◌, Bool, true, false, true≢false, not, ◌&&◌, List, [], ◌∷◌, refl, sym, ap, ◌∙◌, arith}
use Rattle.std.proofs.lemmas.Int.{ints, by_lt_z}
use Rattle.std.specs.List.{All, AllZip}
use Rattle.dimacs_network.specs.{declared.network.ArcView.{ArcView}, Arcs.{JoinsNodes}}
use Rattle.dimacs_judging.specs.{Flows.{cost, sum_arcs, sum_nodes, when, net}, Optimum.{Maximum, Least, NoFlow}}
use Rattle.dimacs_judging.specs.{Feasible.{FeasibleMax, FeasibleMin, value}, Cuts.{CutTight}}
use Rattle.dimacs_judging.specs.Potentials.{reduced_cost, Slack}
use Rattle.dimacs_judging.specs.ViolatedSets.{supply_in, most_out, least_out, Violated}
use Rattle.dimacs_instance.specs.{MaxFlows.{MaxValue}, MinFlows.{MinValue, supply_of}}
use Rattle.dimacs_lines.specs.Limits.{IsNode}
use Rattle.dimacs_judging.proofs.Products.{mul_add, mul_sub, mul_comm, mul_le, mul_ge}
use Rattle.dimacs_judging.proofs.Sums.{sum_arcs-add, sum_arcs-same, sum_arcs-le, sum_nodes-same, sum_nodes-one, sums_exchange}

-- 1 for nodes in the set, 0 for others
abbrev pub one_in : (ℕ → Bool) → ℕ → ℤ
one_in c v = when (c v) (pos 1)

-- the flow out of the set less the flow into it
abbrev pub across : (ℕ → Bool) → List ArcView → List ℤ → ℤ
across c arcs y = sum_arcs (λ a x. x *ℤ (one_in c a.tail -ℤ one_in c a.head)) arcs y

-- the term of one node in the sum over the set
inside : (b : Bool) (z : ℤ) → when b (pos 1) *ℤ z ≡ when b z
inside true z = omega (arith, ints)
inside false z = omega (arith, ints)

pub across_is : (c : ℕ → Bool) (n : ℕ) (arcs : List ArcView) (y : List ℤ) → All (JoinsNodes n) arcs → sum_nodes (λ v. when (c v) (net arcs y v)) n ≡ across c arcs y
across_is c n arcs y ends =
    sum_nodes-same (λ v. when (c v) (net arcs y v)) (λ v. one_in c v *ℤ net arcs y v) n (λ v h. sym (inside (c v) _)) ∙ sums_exchange (one_in c) n arcs y ends

-- the value of a flow is its net flow out of any set with the source and without the sink
pub value_across : (i : MaxValue) (c : ℕ → Bool) (y : List ℤ) → All (JoinsNodes i.nodes) i.arcs → IsNode i.nodes i.source → c i.source ≡ true → c i.sink ≡ false → FeasibleMax i y → value i y ≡ across c i.arcs y
value_across i c y ends source here there f =
    sym (rw here at (sum_nodes-one (λ v. when (c v) (net i.arcs y v)) i.source i.nodes source (λ v h ne. go v h ne (c v) refl))) ∙ across_is c i.nodes i.arcs y ends
  where
    go : (v : ℕ) → IsNode i.nodes v → v ≢ i.source → (b : Bool) → c v ≡ b → when b (net i.arcs y v) ≡ pos 0
    go v h ne true e = f.balanced v h ne (λ k. true≢false (sym e ∙ ap c k ∙ there))
    go v h ne false e = refl

tight_term : (b d : Bool) (x z cap : ℤ) → (pos 0 ≤ℤ x) × (x ≤ℤ cap) → ((b && not d) ≡ true → z ≡ cap) × ((d && not b) ≡ true → z ≡ pos 0)
    → (x *ℤ (when b (pos 1) -ℤ when d (pos 1))) ≤ℤ (z *ℤ (when b (pos 1) -ℤ when d (pos 1)))
tight_term true true x z cap h k = omega (arith, ints)
tight_term true false x z cap h k = omega (arith, ints, k.0 refl)
tight_term false true x z cap h k = omega (arith, ints, k.1 refl)
tight_term false false x z cap h k = omega (arith, ints)

pub tight_is_maximum : (i : MaxValue) → All (JoinsNodes i.nodes) i.arcs → IsNode i.nodes i.source → (x : List ℤ) (c : ℕ → Bool) → FeasibleMax i x → CutTight i x c → Maximum i x
tight_is_maximum i ends source x c f cut = record {
  feasible = f;
  greatest = λ y g.
      let le = sum_arcs-le (λ a z. z *ℤ (one_in c a.tail -ℤ one_in c a.head)) _ _ (λ a p q h k. tight_term (c a.tail) (c a.head) p q a.cap h k) i.arcs y x g.within cut.tight in
      omega (arith, ints, le, value_across i c x ends source cut.source_inside cut.sink_outside f, value_across i c y ends source cut.source_inside cut.sink_outside g);
}

-- ---- least cost
-- what the reduced cost of an arc adds
abbrev pub paid : (ℕ → ℤ) → ArcView → ℤ → ℤ
paid p a x = reduced_cost p a *ℤ x

priced_is : (i : MinValue) (p : ℕ → ℤ) (y : List ℤ) → All (JoinsNodes i.nodes) i.arcs → FeasibleMin i y → sum_arcs (λ a x. x *ℤ (p a.tail -ℤ p a.head)) i.arcs y ≡ sum_nodes (λ v. p v *ℤ supply_of i v) i.nodes
priced_is i p y ends f = sym (sums_exchange p i.nodes i.arcs y ends) ∙ sum_nodes-same _ _ i.nodes (λ v h. ap (λ (z : ℤ). p v *ℤ z) (f.balanced v h))

priced_term : (x c s t : ℤ) → c *ℤ x ≡ ((c -ℤ s) +ℤ t) *ℤ x +ℤ x *ℤ (s -ℤ t)
priced_term x c s t = omega (arith, ints, mul_comm ((c -ℤ s) +ℤ t) x, mul_add x (c -ℤ s) t, mul_sub x c s, mul_sub x s t)

-- the cost of a feasible flow: what the reduced costs add, and what is the same for each flow
pub cost_is : (i : MinValue) (p : ℕ → ℤ) (y : List ℤ) → All (JoinsNodes i.nodes) i.arcs → FeasibleMin i y → cost i.arcs y ≡ sum_arcs (paid p) i.arcs y +ℤ sum_nodes (λ v. p v *ℤ supply_of i v) i.nodes
cost_is i p y ends f =
    let parts = sum_arcs-same (λ a q. a.cost *ℤ q) (λ a q. paid p a q +ℤ q *ℤ (p a.tail -ℤ p a.head)) (λ a x. priced_term x a.cost (p a.tail) (p a.head)) i.arcs y in
    let sums = sum_arcs-add (paid p) (λ a q. q *ℤ (p a.tail -ℤ p a.head)) i.arcs y in
    omega (arith, ints, parts, sums, priced_is i p y ends f)

pub slack_term : (r x z low cap : ℤ) → (pos 0 <ℤ r → x ≡ low) × (r <ℤ pos 0 → x ≡ cap) → (low ≤ℤ z) × (z ≤ℤ cap) → (r *ℤ x) ≤ℤ (r *ℤ z)
slack_term r x z low cap s w =
    by_lt_z (pos 0) r (λ h. mul_le r x z (omega (arith, ints)) (omega (arith, ints, s.0 h))) (λ h.
    by_lt_z r (pos 0) (λ k. mul_ge r z x (omega (arith, ints)) (omega (arith, ints, s.1 k))) (λ k.
    let e : r ≡ pos 0 = omega (arith, ints) in rw e (omega (arith, ints))))

pub slack_is_least : (i : MinValue) → All (JoinsNodes i.nodes) i.arcs → (x : List ℤ) (p : ℕ → ℤ) → FeasibleMin i x → Slack i.arcs x p → Least i x
slack_is_least i ends x p f slack = record {
  feasible = f;
  least = λ y g.
      let le = sum_arcs-le (paid p) _ _ (λ a q z s w. slack_term (reduced_cost p a) q z a.low a.cap s w) i.arcs x y slack g.within in
      omega (arith, ints, le, cost_is i p x ends f, cost_is i p y ends g);
}

-- ---- a violated set
upper_term : (b d : Bool) (x low cap : ℤ) → (low ≤ℤ x) × (x ≤ℤ cap) → (x *ℤ (when b (pos 1) -ℤ when d (pos 1))) ≤ℤ (when (b && not d) cap -ℤ when (d && not b) low)
upper_term true true x low cap h = omega (arith, ints)
upper_term true false x low cap h = omega (arith, ints)
upper_term false true x low cap h = omega (arith, ints)
upper_term false false x low cap h = omega (arith, ints)

lower_term : (b d : Bool) (x low cap : ℤ) → (low ≤ℤ x) × (x ≤ℤ cap) → (when (b && not d) low -ℤ when (d && not b) cap) ≤ℤ (x *ℤ (when b (pos 1) -ℤ when d (pos 1)))
lower_term true true x low cap h = omega (arith, ints)
lower_term true false x low cap h = omega (arith, ints)
lower_term false true x low cap h = omega (arith, ints)
lower_term false false x low cap h = omega (arith, ints)

across_most : (c : ℕ → Bool) (arcs : List ArcView) (y : List ℤ) → AllZip (λ a x. (a.low ≤ℤ x) × (x ≤ℤ a.cap)) arcs y → across c arcs y ≤ℤ most_out arcs c
across_most c [] [] w = omega (arith, ints)
across_most c [] (x ∷ y) w = absurd w
across_most c (a ∷ arcs) [] w = absurd w
across_most c (a ∷ arcs) (x ∷ y) w = omega (arith, ints, upper_term (c a.tail) (c a.head) x a.low a.cap w.0, across_most c arcs y w.1)

across_least : (c : ℕ → Bool) (arcs : List ArcView) (y : List ℤ) → AllZip (λ a x. (a.low ≤ℤ x) × (x ≤ℤ a.cap)) arcs y → least_out arcs c ≤ℤ across c arcs y
across_least c [] [] w = omega (arith, ints)
across_least c [] (x ∷ y) w = absurd w
across_least c (a ∷ arcs) [] w = absurd w
across_least c (a ∷ arcs) (x ∷ y) w = omega (arith, ints, lower_term (c a.tail) (c a.head) x a.low a.cap w.0, across_least c arcs y w.1)

pub violated_has_no_flow : (i : MinValue) → All (JoinsNodes i.nodes) i.arcs → (c : ℕ → Bool) → Violated i c → NoFlow i
violated_has_no_flow i ends c bad y f = go bad
  where
    supplied : supply_in i.nodes (supply_of i) c ≡ across c i.arcs y
    supplied =
        sum_nodes-same (λ v. when (c v) (supply_of i v)) (λ v. when (c v) (net i.arcs y v)) i.nodes (λ v h. ap (λ (z : ℤ). when (c v) z) (sym (f.balanced v h)))
        ∙ across_is c i.nodes i.arcs y ends

    go : Violated i c → ⊥
    go (inl h) = omega (arith, ints, supplied, across_most c i.arcs y f.within)
    go (inr h) = omega (arith, ints, supplied, across_least c i.arcs y f.within)
