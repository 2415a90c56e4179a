-- Distances and predecessors by node, and the labels that they spell.
use Rattle.std.specs.Prelude.{ℕ, ◌≡◌, ◌⊎◌, List, [], ◌∷◌, All, Contains, length, Option, None, Result, Ok, Err, ℤ}
use Rattle.std.specs.{Global.{Vec}, Result.{IsErrAnd}}
use Rattle.dimacs_lines.specs.Limits.{IsNode}
use Rattle.dimacs_records.specs.declared.reasons.Reason.TheVariants.{NegativeWeight, NodeRange}
use Rattle.dimacs_network.specs.Arcs.{NetworkValue}
use Rattle.dimacs_instance.specs.QueryTexts.{Sources}
use Rattle.dimacs_claims.specs.declared.label_list.Label.{Label}
use Rattle.dimacs_claims.specs.Labels.{BlockValue, EachAfter, IsBlock, IsItem, LabelsValue, label}
use Rattle.dimacs_judging.specs.{Answers.{AnswersQueries}, PathsJudge.{PassesPaths, ShowsDistances, paths_rows}}
use Rattle.dimacs_judging.specs.{Rows.{node_row}, Tests.{FirstAlone, Judges, Refutes, Row}}
use Rattle.dimacs_judging.specs.{declared.verdict.JudgeError.{JudgeError}, declared.verdict.Verdict.{Verdict}}
use Rattle.dimacs_judging.specs.declared.verdict.JudgeError.TheVariants.{Refused, Memory}
use Rattle.dimacs_judging.specs.declared.verdict.Where.TheVariants.{Arc}
use Rattle.dimacs_decide.specs.{Claims.{claimed_by_node}, Distances.{AreDistancesFrom, claim_rows, source_row}}
use Rattle.dimacs_decide.specs.Predecessors.{IsNext, NeedsPredecessor, back_row, pred_by_node}
use Rattle.dimacs_solve.specs.Paths.{AreProduced, HasNoNegativeWeight, IsFirstNegative}
use Rattle.dimacs_arrays.specs.declared.solve_paths.PathsSolved.{PathsSolved}
use Rattle.dimacs_arrays.specs.declared.solve_paths.PathsSolved.TheVariants.{Distances, Wide}

-- the predecessor is a node if one is needed, otherwise 0
abbrev pub IsPred : ℕ → ℕ → (ℕ → Option ℤ) → ℕ → ℕ → Type 0
IsPred nodes s claim v p = (NeedsPredecessor s claim v × IsNode nodes p) ⊎ ((¬ NeedsPredecessor s claim v) × (p ≡ 0))

-- the predecessor of a node is out of range
abbrev pub pred_row : ℕ → ℕ → (ℕ → Option ℤ) → (ℕ → ℕ) → Row
pred_row nodes s claim pred = node_row nodes (λ v reason. (reason ≡ NodeRange) × (¬ IsPred nodes s claim v (pred v)))

-- the tests of whether these distances and predecessors spell labels
abbrev pub label_rows : ℕ → ℕ → (ℕ → Option ℤ) → (ℕ → ℕ) → List Row
label_rows nodes s claim pred = source_row s claim ∷ pred_row nodes s claim pred ∷ back_row nodes s claim pred ∷ []

-- one block without a radius, with these distances from the source and predecessors; other nodes have no label
pub record AreLabelsBy (nodes s : ℕ) (claim : ℕ → Option ℤ) (pred : ℕ → ℕ) (labels : LabelsValue) : Type 0 where
  pub block : BlockValue
  pub alone : labels ≡ record { nodes = nodes; blocks = block ∷ [] }
  pub lawful : IsBlock nodes block
  pub source : block.source ≡ s
  pub whole : block.radius ≡ None
  pub agrees : (v : ℕ) → IsNode nodes v → label block v ≡ claim v
  pub preds : All (λ (l : Label). l.pred ≡ pred l.id) block.labels
  pub others : (v : ℕ) → IsNode nodes v → (¬ NeedsPredecessor s claim v) → pred v ≡ 0

-- the labels are ordered by ID, but each comes after that of its predecessor
abbrev pub AreInOrder : ℕ → (ℕ → Option ℤ) → (ℕ → ℕ) → LabelsValue → Type 0
AreInOrder s claim pred labels = All (λ b. EachAfter (IsNext s claim pred) b.labels) labels.blocks

-- judge_paths has this answer for such labels, in this order, and the query for all distances from the source
abbrev pub IsJudged : NetworkValue → ℕ → (ℕ → Option ℤ) → (ℕ → ℕ) → Result Verdict JudgeError → Type 0
IsJudged g s claim pred result =
    (labels : LabelsValue) × AreLabelsBy g.nodes s claim pred labels × AreInOrder s claim pred labels
    × Judges (paths_rows g (Sources (s ∷ [])) labels) (ShowsDistances g (Sources (s ∷ [])) labels)
    (AnswersQueries labels.blocks (Sources (s ∷ []))) result

-- the judge's answer for such labels; or there are none, by the first test that fails
abbrev pub JudgesByNode : NetworkValue → ℕ → (ℕ → Option ℤ) → (ℕ → ℕ) → Result Verdict JudgeError → Type 0
JudgesByNode g s claim pred result =
    IsJudged g s claim pred result ⊎ IsErrAnd result (Refutes (AreLabelsBy g.nodes s claim pred) (label_rows g.nodes s claim pred))

-- a predecessor for each node: labels with these distances and predecessors exist, and all such labels pass
pub record ArePredecessors (g : NetworkValue) (s : ℕ) (claim : ℕ → Option ℤ) (preds : List ℕ) : Type 0 where
  pub each : length preds ≡ g.nodes
  pub some : (labels : LabelsValue) × AreLabelsBy g.nodes s claim (pred_by_node preds) labels
  pub pass : (labels : LabelsValue) → AreLabelsBy g.nodes s claim (pred_by_node preds) labels → PassesPaths g (Sources (s ∷ [])) labels

-- the distances are right, with predecessors that show it; or wrong, with the first test that fails; or out of memory
abbrev pub CertifiesByNode : NetworkValue → ℕ → (ℕ → Option ℤ) → Result (Vec ℕ) JudgeError → Type 0
CertifiesByNode g s claim (Ok preds) = AreDistancesFrom g s claim × ArePredecessors g s claim preds.items
CertifiesByNode g s claim (Err (Refused place reason)) = FirstAlone (claim_rows g s claim) place reason × ¬ AreDistancesFrom g s claim
CertifiesByNode g s claim (Err Memory) = Unit

-- some label's distance doesn't fit into an array
abbrev pub ExceedsArray : BlockValue → Type 0
ExceedsArray b = (l : Label) × Contains b.labels l × ¬ IsItem l.dist

-- distances and predecessors that show them; or labels, if a distance doesn't fit into an array
abbrev pub FindsByNode : NetworkValue → ℕ → PathsSolved → Type 0
FindsByNode g s (Distances distances preds) =
    (length distances.items ≡ g.nodes) × AreDistancesFrom g s (claimed_by_node distances.items)
    × ArePredecessors g s (claimed_by_node distances.items) preds.items
FindsByNode g s (Wide labels) = AreProduced g (Sources (s ∷ [])) labels × ((b : BlockValue) × (labels.blocks ≡ b ∷ []) × ExceedsArray b)

-- distances if no weight is negative; otherwise the first arc with a negative weight; or out of memory
abbrev pub SolvesByNode : NetworkValue → ℕ → Result PathsSolved JudgeError → Type 0
SolvesByNode g s (Ok found) = All HasNoNegativeWeight g.arcs × FindsByNode g s found
SolvesByNode g s (Err (Refused place reason)) = (reason ≡ NegativeWeight) × ((k : ℕ) × IsFirstNegative g.arcs k × (place ≡ Arc k))
SolvesByNode g s (Err Memory) = Unit
