-- Potentials: a whole number at each node.
use Rattle.std.specs.{Prelude.{ℕ, ◌≡◌, List, ℤ, pos, ◌+ℤ◌, ◌-ℤ◌, ◌<ℤ◌}, List.{AllZip}}
use Rattle.dimacs_network.specs.declared.network.ArcView.{ArcView}

-- the arc's cost, minus the potential of its tail, plus the potential of its head
abbrev pub reduced_cost : (ℕ → ℤ) → ArcView → ℤ
reduced_cost p a = a.cost -ℤ p a.tail +ℤ p a.head

-- an arc of positive reduced cost carries its lower bound, and one of negative reduced cost its capacity
abbrev pub IsSlackAt : (ℕ → ℤ) → ArcView → ℤ → Type 0
IsSlackAt p a x = (pos 0 <ℤ reduced_cost p a → x ≡ a.low) × (reduced_cost p a <ℤ pos 0 → x ≡ a.cap)

-- complementary slackness
abbrev pub Slack : List ArcView → List ℤ → (ℕ → ℤ) → Type 0
Slack arcs x p = AllZip (IsSlackAt p) arcs x
