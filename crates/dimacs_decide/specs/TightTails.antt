-- Tails of tight arcs of positive weight as predecessors.
use Rattle.std.specs.Prelude.{ℕ, ◌≡◌, ◌≢◌, List, Contains, Option, Some, ℤ, pos, ◌+ℤ◌, ◌≤ℤ◌, ◌<ℤ◌}
use Rattle.dimacs_records.specs.Ranges.{IsWide}
use Rattle.dimacs_network.specs.declared.network.ArcView.{ArcView}

-- if its tail has a claim, so has its head, no greater than by the arc
abbrev pub IsRelaxedBy : (ℕ → Option ℤ) → ArcView → Type 0
IsRelaxedBy claim a = (d : ℤ) → claim a.tail ≡ Some d → (e : ℤ) × (claim a.head ≡ Some e) × (e ≤ℤ (d +ℤ a.cost))

-- the arc is tight, its weight is positive, and its tail's claim is d
pub record IsPositiveTight (claim : ℕ → Option ℤ) (a : ArcView) (d : ℤ) : Type 0 where
  pub tail : claim a.tail ≡ Some d
  pub head : claim a.head ≡ Some (d +ℤ a.cost)
  pub wide : IsWide (d +ℤ a.cost)
  pub more : pos 0 <ℤ a.cost

-- such an arc leads from this tail to the node
abbrev pub HasTail : List ArcView → (ℕ → Option ℤ) → ℕ → ℕ → Type 0
HasTail arcs claim v tail = (a : ArcView) × Contains arcs a × (a.tail ≡ tail) × (a.head ≡ v) × ((d : ℤ) × IsPositiveTight claim a d)

-- each tail but 0 has such an arc to the node
abbrev pub AreTightTails : List ArcView → (ℕ → Option ℤ) → (ℕ → ℕ) → Type 0
AreTightTails arcs claim tails = (v : ℕ) → tails v ≢ 0 → HasTail arcs claim v (tails v)
