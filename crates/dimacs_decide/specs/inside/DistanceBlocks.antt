-- Inside: decisions about claimed distances, as one block of labels.
use Rattle.std.specs.Prelude.{ℕ, ◌≡◌, Option, None, ℤ, Result, Ok, Err}
use Rattle.dimacs_lines.specs.Limits.{IsNode}
use Rattle.dimacs_network.specs.Arcs.{NetworkValue}
use Rattle.dimacs_claims.specs.Labels.{BlockValue, IsBlock, label}
use Rattle.dimacs_judging.specs.{Labels.{LabelsOk}, Tests.{FirstAlone}, declared.verdict.JudgeError.{JudgeError}}
use Rattle.dimacs_judging.specs.declared.verdict.JudgeError.TheVariants.{Refused, Memory}
use Rattle.dimacs_decide.specs.Distances.{AreDistancesFrom, claim_rows}

-- a block of the source, without a radius, that passes the judge's tests and has the claimed distances
pub record IsBlockOf (g : NetworkValue) (s : ℕ) (claim : ℕ → Option ℤ) (b : BlockValue) : Type 0 where
  pub lawful : IsBlock g.nodes b
  pub source : b.source ≡ s
  pub whole : b.radius ≡ None
  pub passes : LabelsOk g.arcs b
  pub agrees : (v : ℕ) → IsNode g.nodes v → label b v ≡ claim v

-- a block with the source and the distances of a claimed one
abbrev pub IsBlockFor : NetworkValue → BlockValue → BlockValue → Type 0
IsBlockFor g claimed b = IsBlockOf g claimed.source (label claimed) b

-- the claim is true, with a block that shows it; or wrong, with the first test that fails
abbrev pub DecidesBlock : NetworkValue → ℕ → (ℕ → Option ℤ) → Result BlockValue JudgeError → Type 0
DecidesBlock g s claim (Ok b) = AreDistancesFrom g s claim × IsBlockOf g s claim b
DecidesBlock g s claim (Err (Refused place reason)) = FirstAlone (claim_rows g s claim) place reason × ¬ AreDistancesFrom g s claim
DecidesBlock g s claim (Err Memory) = Unit
