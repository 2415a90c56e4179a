-- Walks from a source, by the nodes where they end.
use Rattle.std.specs.{Prelude.{ℕ, ◌≡◌, List, Some, true, ℤ, ◌≤ℤ◌}, FinMap.{FinMap, get}, Ordering.{nat_cmp}}
use Rattle.dimacs_network.specs.declared.network.ArcView.{ArcView}
use Rattle.dimacs_judging.specs.Walks.{IsWalk, weight}
use Rattle.dimacs_facts.specs.{declared.walks.Walk.{Walk}, declared.walks.Walks.{Walks}}

-- some walk from s to t weighs d
pub record HasWalk (g : List ArcView) (s t : ℕ) (d : ℤ) : Type 0 where
  pub walk : List ArcView
  pub leads : IsWalk g s t walk
  pub weighs : weight walk ≡ d

-- some walk from s to t weighs d or less
pub record IsNear (g : List ArcView) (s t : ℕ) (d : ℤ) : Type 0 where
  pub walk : List ArcView
  pub leads : IsWalk g s t walk
  pub weighs : weight walk ≤ℤ d

-- each is the weight of a walk to its node
abbrev pub AreWalks : List ArcView → ℕ → FinMap nat_cmp Walk → Type 0
AreWalks g s walks = (v : ℕ) (w : Walk) → get walks v ≡ Some w → HasWalk g s v w.weight

-- there is one to the end of every walk, and it weighs no more
abbrev pub AreLeast : List ArcView → ℕ → FinMap nat_cmp Walk → Type 0
AreLeast g s walks = (t : ℕ) (walk : List ArcView) → IsWalk g s t walk → (w : Walk) × (get walks t ≡ Some w) × (w.weight ≤ℤ weight walk)

pub record AreWalksFrom (g : List ArcView) (s : ℕ) (walks : Walks) : Type 0 where
  pub are : AreWalks g s walks.by_node
  pub least : walks.are_least ≡ true → AreLeast g s walks.by_node
