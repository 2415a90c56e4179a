-- Sums over arcs and over nodes, and the exchange between them.
use Rattle.std.proofs.Common.{◌≡◌, ◌≢◌, ◌⊎◌, inl, inr, ℕ, suc, zero, ◌==◌, ℤ, pos, ◌+ℤ◌, ◌-ℤ◌, ◌*ℤ◌, ◌≤ℤ◌, true, false, List, [], ◌∷◌, refl, sym, eq-eqb, ◌∙◌, arith}
use Rattle.std.proofs.{lemmas.Int.{ints}, lemmas.Bool.{cases_eq, ne_eqb}, lemmas.List.Elements.{All-head, All-tail}}
use Rattle.std.specs.List.{All, AllZip}
use Rattle.dimacs_network.specs.{declared.network.ArcView.{ArcView}, Arcs.{JoinsNodes}}
use Rattle.dimacs_judging.specs.Flows.{sum_arcs, sum_nodes, when, net}
use Rattle.dimacs_lines.specs.Limits.{IsNode}
use Rattle.dimacs_judging.proofs.Products.{mul_sub, mul_zero, mul_comm, mul_net}

pub sum_arcs-add : (f g : ArcView → ℤ → ℤ) (arcs : List ArcView) (y : List ℤ) → sum_arcs (λ a x. f a x +ℤ g a x) arcs y ≡ sum_arcs f arcs y +ℤ sum_arcs g arcs y
sum_arcs-add f g [] y = refl
sum_arcs-add f g (a ∷ arcs) [] = refl
sum_arcs-add f g (a ∷ arcs) (x ∷ y) = omega (arith, ints, sum_arcs-add f g arcs y)

pub sum_arcs-same : (f g : ArcView → ℤ → ℤ) → ((a : ArcView) (x : ℤ) → f a x ≡ g a x) → (arcs : List ArcView) (y : List ℤ) → sum_arcs f arcs y ≡ sum_arcs g arcs y
sum_arcs-same f g same [] y = refl
sum_arcs-same f g same (a ∷ arcs) [] = refl
sum_arcs-same f g same (a ∷ arcs) (x ∷ y) = let here = same a x in omega (arith, ints, here, sum_arcs-same f g same arcs y)

-- a sum is no less if no term is
pub sum_arcs-le : (f : ArcView → ℤ → ℤ) (Q R : ArcView → ℤ → Type 0)
    → ((a : ArcView) (x z : ℤ) → Q a x → R a z → f a x ≤ℤ f a z)
    → (arcs : List ArcView) (y z : List ℤ) → AllZip Q arcs y → AllZip R arcs z → sum_arcs f arcs y ≤ℤ sum_arcs f arcs z
sum_arcs-le f Q R each [] [] [] q r = omega (arith, ints)
sum_arcs-le f Q R each [] [] (z ∷ zs) q r = absurd r
sum_arcs-le f Q R each [] (y ∷ ys) zs q r = absurd q
sum_arcs-le f Q R each (a ∷ arcs) [] zs q r = absurd q
sum_arcs-le f Q R each (a ∷ arcs) (y ∷ ys) [] q r = absurd r
sum_arcs-le f Q R each (a ∷ arcs) (y ∷ ys) (z ∷ zs) q r =
    omega (arith, ints, each a y z q.0 r.0, sum_arcs-le f Q R each arcs ys zs q.1 r.1)

-- ---- sums over nodes
pub sum_nodes-same : (f g : ℕ → ℤ) (n : ℕ) → ((v : ℕ) → IsNode n v → f v ≡ g v) → sum_nodes f n ≡ sum_nodes g n
sum_nodes-same f g zero same = refl
sum_nodes-same f g (suc n) same =
    let here = same (suc n) (omega arith) in
    omega (arith, ints, here, sum_nodes-same f g n (λ v h. same v (omega arith)))

pub sum_nodes-add : (f g : ℕ → ℤ) (n : ℕ) → sum_nodes (λ v. f v +ℤ g v) n ≡ sum_nodes f n +ℤ sum_nodes g n
sum_nodes-add f g zero = refl
sum_nodes-add f g (suc n) = omega (arith, ints, sum_nodes-add f g n)

pub sum_nodes-sub : (f g : ℕ → ℤ) (n : ℕ) → sum_nodes (λ v. f v -ℤ g v) n ≡ sum_nodes f n -ℤ sum_nodes g n
sum_nodes-sub f g zero = refl
sum_nodes-sub f g (suc n) = omega (arith, ints, sum_nodes-sub f g n)

pub sum_nodes-zero : (g : ℕ → ℤ) (n : ℕ) → ((v : ℕ) → IsNode n v → g v ≡ pos 0) → sum_nodes g n ≡ pos 0
sum_nodes-zero g zero none = refl
sum_nodes-zero g (suc n) none =
    let here = none (suc n) (omega arith) in
    omega (arith, ints, here, sum_nodes-zero g n (λ v h. none v (omega arith)))

-- a single term, if all others are 0
pub sum_nodes-one : (g : ℕ → ℤ) (s n : ℕ) → IsNode n s → ((v : ℕ) → IsNode n v → v ≢ s → g v ≡ pos 0) → sum_nodes g n ≡ g s
sum_nodes-one g s zero h none = absurd (omega arith)
sum_nodes-one g s (suc n) h none = go (cases_eq s (suc n)) (λ k. sum_nodes-one g s n k (λ v m d. none v (omega arith) d))
  where
    go : (s ≡ suc n) ⊎ (s ≡ suc n → ⊥) → (IsNode n s → sum_nodes g n ≡ g s) → sum_nodes g (suc n) ≡ g s
    go (inl e) more = rw e (omega (arith, ints, sum_nodes-zero g n (λ v k. none v (omega arith) (omega arith))))
    go (inr ne) more =
        let here = none (suc n) (omega arith) (λ e. ne (sym e)) in
        omega (arith, ints, here, more (omega arith))

-- p at t times x, as a sum over the nodes
pub sum_nodes-at : (p : ℕ → ℤ) (t : ℕ) (x : ℤ) (n : ℕ) → IsNode n t → sum_nodes (λ v. p v *ℤ when (t == v) x) n ≡ x *ℤ p t
sum_nodes-at p t x n h =
    sum_nodes-one (λ v. p v *ℤ when (t == v) x) t n h (λ v k d. let no : (t == v) ≡ false = ne_eqb t v (λ e. d (sym e)) in rw no (mul_zero (p v)))
    ∙ (let yes : (t == t) ≡ true = eq-eqb t t refl in rw yes (mul_comm (p t) x))

-- the sum exchange
pub sums_exchange : (p : ℕ → ℤ) (n : ℕ) (arcs : List ArcView) (y : List ℤ) → All (JoinsNodes n) arcs
    → sum_nodes (λ v. p v *ℤ net arcs y v) n ≡ sum_arcs (λ a x. x *ℤ (p a.tail -ℤ p a.head)) arcs y
sums_exchange p n [] y ends = sum_nodes-zero _ n (λ v h. mul_zero (p v))
sums_exchange p n (a ∷ arcs) [] ends = sum_nodes-zero _ n (λ v h. mul_zero (p v))
sums_exchange p n (a ∷ arcs) (x ∷ y) ends =
    let out : ℕ → ℤ = λ v. p v *ℤ when (a.tail == v) x in
    let back : ℕ → ℤ = λ v. p v *ℤ when (a.head == v) x in
    let rest : ℕ → ℤ = λ v. p v *ℤ net arcs y v in
    let here = All-head (JoinsNodes n) a arcs ends in
    let terms = sum_nodes-same (λ v. p v *ℤ net (a ∷ arcs) (x ∷ y) v) (λ v. (out v -ℤ back v) +ℤ rest v) n (λ v h. mul_net (p v) _ _ _ _) in
    omega (arith, ints, terms, sum_nodes-add (λ v. out v -ℤ back v) rest n, sum_nodes-sub out back n, sum_nodes-at p a.tail x n here.0, sum_nodes-at p a.head x n here.1, mul_sub x (p a.tail) (p a.head), sums_exchange p n arcs y (All-tail (JoinsNodes n) a arcs ends))
