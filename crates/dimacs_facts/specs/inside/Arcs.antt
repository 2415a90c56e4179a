-- What one arc does to walks.
use Rattle.std.specs.{Prelude.{ℕ, ◌≡◌, ◌⊎◌, List, Contains, None, Some, ℤ, ◌+ℤ◌, ◌≤ℤ◌}, FinMap.{FinMap, get}}
use Rattle.std.specs.Ordering.{nat_cmp}
use Rattle.dimacs_network.specs.declared.network.ArcView.{ArcView}
use Rattle.dimacs_facts.specs.declared.walks.Walk.{Walk}

-- an arc from one node to another adds its weight
abbrev pub IsStep : List ArcView → ℕ → ℤ → ℕ → ℤ → Type 0
IsStep g from before to after = (a : ArcView) × Contains g a × (a.tail ≡ from) × (a.head ≡ to) × (after ≡ (before +ℤ a.cost))

-- there is none to the arc's tail, or there is one to its head, which weighs no more than that with the arc
abbrev pub IsEased : FinMap nat_cmp Walk → ArcView → Type 0
IsEased walks a = (get walks a.tail ≡ None) ⊎ ((w : Walk) × (get walks a.tail ≡ Some w) × ((h : Walk) × (get walks a.head ≡ Some h) × (h.weight ≤ℤ (w.weight +ℤ a.cost))))
