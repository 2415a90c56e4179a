-- Claimed distances from a source, and decisions about them.
use Rattle.std.specs.Prelude.{ℕ, ◌≡◌, ◌≢◌, List, [], ◌∷◌, length, All, Option, Some, None, IsSome, ℤ, pos, ◌+ℤ◌, Result, Ok, Err}
use Rattle.dimacs_network.specs.{declared.network.ArcView.{ArcView}, Arcs.{NetworkValue, arc_at}}
use Rattle.dimacs_instance.specs.QueryTexts.{Sources}
use Rattle.dimacs_lines.specs.Limits.{IsNode}
use Rattle.dimacs_records.specs.declared.reasons.Reason.TheVariants.{NoTightArc, NotShortest}
use Rattle.dimacs_claims.specs.Labels.{LabelsValue}
use Rattle.dimacs_judging.specs.{CertificateTests.{RelaxFails}, Answers.{distance_from}, PathsJudge.{PassesPaths}}
use Rattle.dimacs_judging.specs.{Rows.{arc_row, node_row, one_test}, Tests.{Row, FirstAlone}}
use Rattle.dimacs_judging.specs.{Walks.{IsDistance, IsWalk}, declared.verdict.Where.TheVariants.{Node}}
use Rattle.dimacs_judging.specs.declared.verdict.JudgeError.{JudgeError}
use Rattle.dimacs_judging.specs.declared.verdict.JudgeError.TheVariants.{Refused, Memory}

-- the claim of each node is its distance from s; a node without a claim is unreachable
abbrev pub AreDistancesFrom : NetworkValue → ℕ → (ℕ → Option ℤ) → Type 0
AreDistancesFrom g s claim = (v : ℕ) → IsNode g.nodes v → IsDistance g.arcs s v (claim v) None

-- the arc's weight is the difference of the claims of its ends
abbrev pub IsTight : (ℕ → Option ℤ) → ArcView → Type 0
IsTight claim a = (d : ℤ) × (claim a.tail ≡ Some d) × (claim a.head ≡ Some (d +ℤ a.cost))

-- a walk over tight arcs leads from s to v
abbrev pub IsTightlyReached : List ArcView → ℕ → (ℕ → Option ℤ) → ℕ → Type 0
IsTightlyReached arcs s claim v = (walk : List ArcView) × IsWalk arcs s v walk × All (IsTight claim) walk

-- the claim of the source is 0
abbrev pub source_row : ℕ → (ℕ → Option ℤ) → Row
source_row s claim = one_test (Node s) NotShortest (claim s ≢ Some (pos 0))

-- no arc leads to a node without a claim, or with too great a one
abbrev pub claim_row : List ArcView → (ℕ → Option ℤ) → Row
claim_row arcs claim = arc_row arcs (λ k reason. RelaxFails None (claim (arc_at arcs k).tail) (claim (arc_at arcs k).head) (arc_at arcs k).cost reason)

-- a path of tight arcs leads to each node with a claim
abbrev pub reach_row : NetworkValue → ℕ → (ℕ → Option ℤ) → Row
reach_row g s claim = node_row g.nodes (λ v reason. (reason ≡ NoTightArc) × IsSome (claim v) × (¬ IsTightlyReached g.arcs s claim v))

abbrev pub claim_rows : NetworkValue → ℕ → (ℕ → Option ℤ) → List Row
claim_rows g s claim = source_row s claim ∷ claim_row g.arcs claim ∷ reach_row g s claim ∷ []

-- the labels are one block, which passes the judge's tests for the source and has the claimed distances
pub record AreLabelsOf (g : NetworkValue) (s : ℕ) (claim : ℕ → Option ℤ) (labels : LabelsValue) : Type 0 where
  pub alone : length labels.blocks ≡ 1
  pub passes : PassesPaths g (Sources (s ∷ [])) labels
  pub agrees : (v : ℕ) → IsNode g.nodes v → distance_from labels.blocks s v ≡ claim v

-- the claim is true, with labels that show it; or wrong, with the first test that fails; or out of memory
abbrev pub DecidesDistances : NetworkValue → ℕ → (ℕ → Option ℤ) → Result LabelsValue JudgeError → Type 0
DecidesDistances g s claim (Ok labels) = AreDistancesFrom g s claim × AreLabelsOf g s claim labels
DecidesDistances g s claim (Err (Refused place reason)) = FirstAlone (claim_rows g s claim) place reason × ¬ AreDistancesFrom g s claim
DecidesDistances g s claim (Err Memory) = Unit
