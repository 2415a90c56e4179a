-- Predecessors of nodes, and where they lead.
use Rattle.std.specs.Prelude.{ℕ, zero, suc, ◌≡◌, ◌≢◌, ◌<◌, List, get_or, Option, None, IsSome, ℤ}
use Rattle.dimacs_records.specs.declared.reasons.Reason.TheVariants.{PredUnknown}
use Rattle.dimacs_claims.specs.{declared.label_list.Label.{Label}, Labels.{distance_in}}
use Rattle.dimacs_judging.specs.{Rows.{node_row}, Tests.{Row}}

-- the predecessor of node v is item v - 1; 0 past the end
abbrev pub pred_by_node : List ℕ → ℕ → ℕ
pred_by_node preds zero = 0
pred_by_node preds (suc k) = get_or preds k 0

-- the node that this many steps lead to, each from a node to its predecessor
abbrev pub back : (ℕ → ℕ) → ℕ → ℕ → ℕ
back pred zero v = v
back pred (suc steps) v = back pred steps (pred v)

-- v leads back to s, predecessor by predecessor
abbrev pub LeadsBack : (ℕ → ℕ) → ℕ → ℕ → Type 0
LeadsBack pred s v = (steps : ℕ) × (back pred steps v ≡ s)

-- the node needs a predecessor: it has a distance and isn't the source
abbrev pub NeedsPredecessor : ℕ → (ℕ → Option ℤ) → ℕ → Type 0
NeedsPredecessor s claim v = (v ≢ s) × IsSome (claim v)

-- a node has a distance and doesn't lead back to the source
abbrev pub back_row : ℕ → ℕ → (ℕ → Option ℤ) → (ℕ → ℕ) → Row
back_row nodes s claim pred = node_row nodes (λ v reason. (reason ≡ PredUnknown) × IsSome (claim v) × (¬ LeadsBack pred s v))

-- the first node that needs a predecessor and has none of these labels
pub record IsFirstUnlabelled (s : ℕ) (claim : ℕ → Option ℤ) (before : List Label) (v : ℕ) : Type 0 where
  pub due : NeedsPredecessor s claim v
  pub left : distance_in before v ≡ None
  pub least : (u : ℕ) → u < v → NeedsPredecessor s claim u → IsSome (distance_in before u)

-- the next label is of a node on the path back from the first node without a label
abbrev pub IsNext : ℕ → (ℕ → Option ℤ) → (ℕ → ℕ) → List Label → Label → Type 0
IsNext s claim pred before l = (v : ℕ) × IsFirstUnlabelled s claim before v × LeadsBack pred l.id v
