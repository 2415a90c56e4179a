-- Cuts: sets of nodes with the source inside and the sink outside.
use Rattle.std.specs.{Prelude.{ℕ, ◌≡◌, Bool, true, false, not, ◌&&◌, List, ℤ, pos}, List.{AllZip}, FinSet.{contains}}
use Rattle.dimacs_network.specs.declared.network.ArcView.{ArcView}
use Rattle.dimacs_instance.specs.MaxFlows.{MaxValue}
use Rattle.dimacs_claims.specs.Cuts.{CutValue}

-- whether a node is in the set
abbrev pub members : CutValue → ℕ → Bool
members c = contains c.ids

-- the tail is in the set and the head isn't
abbrev pub leaves : (ℕ → Bool) → ArcView → Bool
leaves set a = set a.tail && not (set a.head)

-- the head is in the set and the tail isn't
abbrev pub enters : (ℕ → Bool) → ArcView → Bool
enters set a = set a.head && not (set a.tail)

-- an arc that leaves the set carries its capacity, and one that enters it carries nothing
abbrev pub IsTightAt : (ℕ → Bool) → ArcView → ℤ → Type 0
IsTightAt set a x = (leaves set a ≡ true → x ≡ a.cap) × (enters set a ≡ true → x ≡ pos 0)

-- the cut is tight: source inside, sink outside, arcs that leave are full, arcs that enter are empty
pub record CutTight (i : MaxValue) (x : List ℤ) (set : ℕ → Bool) : Type 0 where
  pub source_inside : set i.source ≡ true
  pub sink_outside : set i.sink ≡ false
  pub tight : AllZip (IsTightAt set) i.arcs x
