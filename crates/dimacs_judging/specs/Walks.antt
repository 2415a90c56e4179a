-- Walks and distances.
use Rattle.std.specs.Prelude.{ℕ, ◌≡◌, List, [], ◌∷◌, Contains, Option, Some, None, ℤ, pos, ◌+ℤ◌, ◌≤ℤ◌, ◌<ℤ◌}
use Rattle.dimacs_network.specs.declared.network.ArcView.{ArcView}

-- a list of arcs of g from s to t, each beginning where the one before ended
abbrev pub IsWalk : List ArcView → ℕ → ℕ → List ArcView → Type 0
IsWalk g s t [] = s ≡ t
IsWalk g s t (a ∷ walk) = Contains g a × (a.tail ≡ s) × IsWalk g a.head t walk

abbrev pub weight : List ArcView → ℤ
weight [] = pos 0
weight (a ∷ walk) = a.cost +ℤ weight walk

-- some walk weighs d, and none weighs less
pub record Dist (g : List ArcView) (s t : ℕ) (d : ℤ) : Type 0 where
  pub walk : List ArcView
  pub leads : IsWalk g s t walk
  pub weighs : weight walk ≡ d
  pub least : (other : List ArcView) → IsWalk g s t other → d ≤ℤ weight other

abbrev pub Unreachable : List ArcView → ℕ → ℕ → Type 0
Unreachable g s t = (walk : List ArcView) → ¬ IsWalk g s t walk

-- every walk from s to t weighs more than r; there may be none
abbrev pub Beyond : List ArcView → ℕ → ℕ → ℤ → Type 0
Beyond g s t r = (walk : List ArcView) → IsWalk g s t walk → r <ℤ weight walk

-- the distance from s to t; without one there is no walk, or none within the radius if there is a radius
abbrev pub IsDistance : List ArcView → ℕ → ℕ → Option ℤ → Option ℤ → Type 0
IsDistance g s t (Some d) radius = Dist g s t d
IsDistance g s t None None = Unreachable g s t
IsDistance g s t None (Some r) = Beyond g s t r
