-- Sets of nodes whose supply can't be met.
use Rattle.std.specs.Prelude.{ℕ, ◌⊎◌, Bool, List, [], ◌∷◌, ℤ, pos, ◌+ℤ◌, ◌-ℤ◌, ◌<ℤ◌}
use Rattle.dimacs_network.specs.declared.network.ArcView.{ArcView}
use Rattle.dimacs_judging.specs.{Flows.{when, sum_nodes}, Cuts.{leaves, enters}}
use Rattle.dimacs_instance.specs.MinFlows.{MinValue, supply_of}

-- the sum of f over the arcs that pass the test
abbrev pub sum_where : (ArcView → Bool) → (ArcView → ℤ) → List ArcView → ℤ
sum_where test f [] = pos 0
sum_where test f (a ∷ arcs) = when (test a) (f a) +ℤ sum_where test f arcs

-- the sum of the supplies in the set
abbrev pub supply_in : ℕ → (ℕ → ℤ) → (ℕ → Bool) → ℤ
supply_in nodes supply set = sum_nodes (λ v. when (set v) (supply v)) nodes

-- the most that can flow out of the set, less what has to flow into it
abbrev pub most_out : List ArcView → (ℕ → Bool) → ℤ
most_out arcs set = sum_where (leaves set) (λ a. a.cap) arcs -ℤ sum_where (enters set) (λ a. a.low) arcs

-- what has to flow out of the set, less the most that can flow into it
abbrev pub least_out : List ArcView → (ℕ → Bool) → ℤ
least_out arcs set = sum_where (leaves set) (λ a. a.low) arcs -ℤ sum_where (enters set) (λ a. a.cap) arcs

-- the supply in the set is more than can flow out of it, or less than must
abbrev pub Violated : MinValue → (ℕ → Bool) → Type 0
Violated i set = (most_out i.arcs set <ℤ supply_in i.nodes (supply_of i) set) ⊎ (supply_in i.nodes (supply_of i) set <ℤ least_out i.arcs set)
