-- Inside: labels of nodes that lead back to the source, and the path back from one more.
use Rattle.std.specs.Prelude.{ℕ, ◌≡◌, ◌≢◌, ◌<◌, ◌≤◌, ◌⊎◌, Bool, true, false, List, [], ◌∷◌, All, length, Option, None, IsSome, ℤ}
use Rattle.dimacs_lines.specs.Limits.{most_nodes, IsNode}
use Rattle.dimacs_claims.specs.{declared.label_list.Label.{Label}, Labels.{BlockValue, EachAfter, label}}
use Rattle.dimacs_decide.specs.{Predecessors.{IsNext, LeadsBack}, inside.MarkedBlocks.{IsMarkedBlock}}

-- distances of nodes, and predecessors of no others
pub record IsProposed (nodes : ℕ) (claim : ℕ → Option ℤ) (pred : ℕ → ℕ) : Type 0 where
  pub small : nodes ≤ most_nodes
  pub within : (v : ℕ) → IsSome (claim v) → IsNode nodes v
  pub preds : (v : ℕ) → claim v ≡ None → pred v ≡ 0

-- the labels of nodes that lead back to the source, each with the distance and the predecessor of its node
pub record IsLabelTree (nodes s : ℕ) (claim : ℕ → Option ℤ) (pred : ℕ → ℕ) (b : BlockValue) (labelled : ℕ → Bool) : Type 0 where
  pub source : b.source ≡ s
  pub block : IsMarkedBlock nodes claim b labelled
  pub preds : All (λ (l : Label). l.pred ≡ pred l.id) b.labels
  pub leads : (v : ℕ) → labelled v ≡ true → LeadsBack pred s v
  pub inside : (v : ℕ) → labelled v ≡ true → IsNode nodes v
  pub order : EachAfter (IsNext s claim pred) b.labels

-- no label is lost
abbrev pub Keeps : (ℕ → Bool) → (ℕ → Bool) → Type 0
Keeps labelled after = (v : ℕ) → labelled v ≡ true → after v ≡ true

-- no other node gets a label
abbrev pub Places : (ℕ → Bool) → (ℕ → Bool) → ℕ → Type 0
Places labelled after u = (after u ≡ true) × ((v : ℕ) → v ≢ u → after v ≡ labelled v)

-- each node before this one with a distance is labelled
abbrev pub AreLabelledBelow : (ℕ → Option ℤ) → (ℕ → Bool) → ℕ → Type 0
AreLabelledBelow claim labelled n = (v : ℕ) → v < n → IsSome (claim v) → labelled v ≡ true

-- the path back from v: nodes with distances, each the predecessor of the one before; the next is `end`
abbrev pub IsPathBack : (ℕ → Option ℤ) → (ℕ → ℕ) → ℕ → List ℕ → ℕ → Type 0
IsPathBack claim pred v [] end = v ≡ end
IsPathBack claim pred v (u ∷ path) end = (v ≡ u) × IsSome (claim v) × IsPathBack claim pred (pred v) path end

-- none of these nodes is labelled
abbrev pub AreOff : (ℕ → Bool) → List ℕ → Type 0
AreOff labelled path = All (λ u. labelled u ≡ false) path

-- a path of this length ends before a node without a distance, or with a label; or it is longer than one can be
abbrev pub EndsPath : ℕ → (ℕ → Option ℤ) → (ℕ → Bool) → ℕ → ℕ → Type 0
EndsPath nodes claim labelled long end = (claim end ≡ None) ⊎ ((labelled end ≡ true) ⊎ (nodes < long))

-- the node is at most the first on the path
abbrev pub ComesFirst : ℕ → List ℕ → Type 0
ComesFirst v [] = Unit {0}
ComesFirst v (u ∷ path) = All (λ w. w ≢ v) path

-- the node has no distance or is labelled; or it has a distance and doesn't lead back to the source
abbrev pub Leads : (ℕ → ℕ) → ℕ → (ℕ → Option ℤ) → (ℕ → Bool) → ℕ → Bool → Type 0
Leads pred s claim labelled v true = (claim v ≡ None) ⊎ (labelled v ≡ true)
Leads pred s claim labelled v false = IsSome (claim v) × (¬ LeadsBack pred s v)

-- each node with a distance is labelled
abbrev pub AreLabelled : (ℕ → Option ℤ) → (ℕ → Bool) → Type 0
AreLabelled claim labelled = (v : ℕ) → IsSome (claim v) → labelled v ≡ true
