-- Inside: the predecessors of labels, by node.
use Rattle.std.specs.Prelude.{ℕ, ◌≡◌, List, All, length, None}
use Rattle.dimacs_claims.specs.{declared.label_list.Label.{Label}, Labels.{distance_in}}
use Rattle.dimacs_decide.specs.Predecessors.{pred_by_node}

-- the predecessor of each labelled node; 0 for the others
pub record ArePredsOf (nodes : ℕ) (labels : List Label) (preds : List ℕ) : Type 0 where
  pub each : length preds ≡ nodes
  pub named : All (λ (l : Label). l.pred ≡ pred_by_node preds l.id) labels
  pub others : (v : ℕ) → distance_in labels v ≡ None → pred_by_node preds v ≡ 0
