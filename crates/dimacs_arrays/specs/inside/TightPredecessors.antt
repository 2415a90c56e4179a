-- Inside: distances that tight arcs of positive weight show.
use Rattle.std.specs.Prelude.{ℕ, ◌≡◌, ◌≢◌, List, All, length, Option, Some, ℤ, pos}
use Rattle.dimacs_network.specs.declared.network.ArcView.{ArcView}
use Rattle.dimacs_decide.specs.{Claims.{claimed_by_node}, Predecessors.{NeedsPredecessor, pred_by_node}}
use Rattle.dimacs_decide.specs.TightTails.{AreTightTails, IsRelaxedBy}

-- each node that needs a predecessor has one
abbrev pub HavePredecessors : ℕ → (ℕ → Option ℤ) → (ℕ → ℕ) → Type 0
HavePredecessors s claim pred = (v : ℕ) → NeedsPredecessor s claim v → pred v ≢ 0

-- the predecessors of all nodes, which show the distances
pub record AreTightPredecessorsFrom (nodes s : ℕ) (arcs : List ArcView) (distances : List ℤ) (preds : List ℕ) : Type 0 where
  pub whole : length distances ≡ nodes
  pub each : length preds ≡ nodes
  pub source : claimed_by_node distances s ≡ Some (pos 0)
  pub root : pred_by_node preds s ≡ 0
  pub relaxed : All (IsRelaxedBy (claimed_by_node distances)) arcs
  pub tails : AreTightTails arcs (claimed_by_node distances) (pred_by_node preds)
  pub predecessors : HavePredecessors s (claimed_by_node distances) (pred_by_node preds)
