-- The arcs of instances, and how they are stored.
use Rattle.std.specs.{Prelude.{ℕ, ℤ, pos, List, map}, List.{zip}}
use Rattle.dimacs_network.specs.declared.network.ArcView.{ArcView}

-- an arc with a weight and nothing else
abbrev pub weight_arc : ℕ → ℕ → ℤ → ArcView
weight_arc tail head weight = record { tail = tail; head = head; low = pos 0; cap = pos 0; cost = weight }

-- an arc with a capacity and nothing else
abbrev pub capacity_arc : ℕ → ℕ → ℤ → ArcView
capacity_arc tail head cap = record { tail = tail; head = head; low = pos 0; cap = cap; cost = pos 0 }

-- an arc with bounds and a cost
abbrev pub cost_arc : ℕ → ℕ → ℤ → ℤ → ℤ → ArcView
cost_arc tail head low cap cost = record { tail = tail; head = head; low = low; cap = cap; cost = cost }

-- the arcs whose parts are at the same positions of these two lists
unfoldable pub arcs_of : {F B : Type 0} → (F → B → ArcView) → List F → List B → List ArcView
arcs_of arc_of ends numbers = map (λ parts. arc_of parts.0 parts.1) (zip ends numbers)
