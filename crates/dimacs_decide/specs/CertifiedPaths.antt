-- Certifying claimed distances from several sources.
use Rattle.std.specs.Prelude.{ℕ, ◌≡◌, List, [], ◌∷◌, ◌++◌, All, map, Result, Ok, Err}
use Rattle.dimacs_lines.specs.Limits.{IsNode}
use Rattle.dimacs_network.specs.Arcs.{NetworkValue}
use Rattle.dimacs_instance.specs.QueryTexts.{Sources}
use Rattle.dimacs_claims.specs.Labels.{BlockValue, LabelsValue, label}
use Rattle.dimacs_judging.specs.{Answers.{distance_from}, PathsJudge.{PassesPaths}, Tests.{Row, FirstAlone}}
use Rattle.dimacs_judging.specs.declared.verdict.JudgeError.{JudgeError}
use Rattle.dimacs_judging.specs.declared.verdict.JudgeError.TheVariants.{Refused, Memory}
use Rattle.dimacs_decide.specs.Distances.{AreDistancesFrom, claim_rows}

-- the claims of each block are the distances from its source
abbrev pub AreAllDistances : NetworkValue → List BlockValue → Type 0
AreAllDistances g blocks = All (λ b. AreDistancesFrom g b.source (label b)) blocks

abbrev pub block_source : BlockValue → ℕ
block_source b = b.source

-- the sources of the blocks, in order
abbrev pub sources_of : List BlockValue → List ℕ
sources_of blocks = map block_source blocks

-- the tests of all blocks, block by block
abbrev pub distances_rows : NetworkValue → List BlockValue → List Row
distances_rows g [] = []
distances_rows g (b ∷ blocks) = claim_rows g b.source (label b) ++ distances_rows g blocks

-- the blocks of the labels have the sources of the claim, in its order; they pass the judge's tests for them, and have
-- the claimed distances
pub record AreLabelsOfAll (g : NetworkValue) (blocks : List BlockValue) (labels : LabelsValue) : Type 0 where
  pub sources : sources_of labels.blocks ≡ sources_of blocks
  pub passes : PassesPaths g (Sources (sources_of blocks)) labels
  pub agrees : All (λ b. (v : ℕ) → IsNode g.nodes v → distance_from labels.blocks b.source v ≡ label b v) blocks

-- all claims are true, with labels that show it; or some claim is wrong, with the first test that fails; or out of
-- memory
abbrev pub CertifiesPaths : NetworkValue → List BlockValue → Result LabelsValue JudgeError → Type 0
CertifiesPaths g blocks (Ok labels) = AreAllDistances g blocks × AreLabelsOfAll g blocks labels
CertifiesPaths g blocks (Err (Refused place reason)) = FirstAlone (distances_rows g blocks) place reason × ¬ AreAllDistances g blocks
CertifiesPaths g blocks (Err Memory) = Unit
