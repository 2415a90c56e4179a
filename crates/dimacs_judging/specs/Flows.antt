-- Flows on a network: for each arc a whole number of any size and sign.
use Rattle.std.specs.Prelude.{ℕ, suc, zero, ◌==◌, Bool, if◌then◌else◌, List, [], ◌∷◌, ℤ, pos, ◌+ℤ◌, ◌-ℤ◌, ◌*ℤ◌}
use Rattle.dimacs_network.specs.declared.network.ArcView.{ArcView}

-- x if the test holds, otherwise 0
abbrev pub when : Bool → ℤ → ℤ
when test x = if test then x else pos 0

-- the sum of f over the arcs with their amounts
abbrev pub sum_arcs : (ArcView → ℤ → ℤ) → List ArcView → List ℤ → ℤ
sum_arcs f [] y = pos 0
sum_arcs f (a ∷ arcs) [] = pos 0
sum_arcs f (a ∷ arcs) (x ∷ y) = f a x +ℤ sum_arcs f arcs y

-- the sum of f over the nodes 1 to n
abbrev pub sum_nodes : (ℕ → ℤ) → ℕ → ℤ
sum_nodes f zero = pos 0
sum_nodes f (suc n) = sum_nodes f n +ℤ f (suc n)

-- the balance of node v: its outflow less its inflow
abbrev pub net : List ArcView → List ℤ → ℕ → ℤ
net arcs y v = sum_arcs (λ a x. when (a.tail == v) x) arcs y -ℤ sum_arcs (λ a x. when (a.head == v) x) arcs y

abbrev pub cost : List ArcView → List ℤ → ℤ
cost arcs y = sum_arcs (λ a x. a.cost *ℤ x) arcs y
