-- Inside: sending flow from nodes with excess to one with a deficit.
use Rattle.std.specs.{Prelude.{ℕ, ◌≡◌, Bool, true, List, ℤ, pos, ◌+ℤ◌, ◌≤ℤ◌, ◌<ℤ◌}, List.{AllZip}}
use Rattle.dimacs_claims.specs.Cuts.{CutValue}
use Rattle.dimacs_network.specs.declared.network.ArcView.{ArcView}
use Rattle.dimacs_judging.specs.Cuts.{enters, leaves, members}
use Rattle.dimacs_lines.specs.Limits.{IsNode}
use Rattle.dimacs_decide.specs.{Bounds.{KeepsBounds}, declared.send.Augmentation.{Augmentation}}
use Rattle.dimacs_decide.specs.{declared.send.Augmentation.TheVariants.{Sent, Stuck}, inside.Raising.{Shifts}}

-- y is x with an amount sent from a node with that much excess to one with that much deficit
pub record IsSent (nodes : ℕ) (arcs : List ArcView) (x y : List ℤ) (imbalance : ℕ → ℤ) : Type 0 where
  pub from : ℕ
  pub to : ℕ
  pub amount : ℤ
  pub from_within : IsNode nodes from
  pub to_within : IsNode nodes to
  pub positive : pos 0 <ℤ amount
  pub enough : amount ≤ℤ imbalance from
  pub within_deficit : (amount +ℤ imbalance to) ≤ℤ pos 0
  pub within : KeepsBounds arcs y
  pub shifts : Shifts arcs x y from to amount

-- an arc that leaves the set is full, and one that enters it carries its lower bound
abbrev pub IsShutAt : (ℕ → Bool) → ArcView → ℤ → Type 0
IsShutAt set a x = (leaves set a ≡ true → x ≡ a.cap) × (enters set a ≡ true → x ≡ a.low)

-- no more can leave the set, and no node of it has a deficit
pub record IsShut (nodes : ℕ) (arcs : List ArcView) (x : List ℤ) (imbalance : ℕ → ℤ) (set : ℕ → Bool) : Type 0 where
  pub shut : AllZip (IsShutAt set) arcs x
  pub no_deficit : (v : ℕ) → IsNode nodes v → set v ≡ true → pos 0 ≤ℤ imbalance v

-- the set has this number of nodes in all, and contains the nodes that were reached before
pub record IsStuck (nodes : ℕ) (arcs : List ArcView) (x : List ℤ) (imbalance : ℕ → ℤ) (reached : ℕ → Type 0) (set : CutValue) : Type 0 where
  pub of : set.nodes ≡ nodes
  pub has : (v : ℕ) → IsNode nodes v → reached v → members set v ≡ true
  pub shut : IsShut nodes arcs x imbalance (members set)

abbrev pub IsRightAugmentation : ℕ → List ArcView → List ℤ → (ℕ → ℤ) → (ℕ → Type 0) → Augmentation → Type 0
IsRightAugmentation nodes arcs x imbalance reached (Sent y) = IsSent nodes arcs x y imbalance
IsRightAugmentation nodes arcs x imbalance reached (Stuck set) = IsStuck nodes arcs x imbalance reached set
