-- Decisions about a claimed flow.
use Rattle.std.proofs.Common.{List, ℤ}
use Rattle.dimacs_claims.specs.SolutionTexts.{SolutionValue}
use Rattle.dimacs_instance.specs.{MaxFlows.{MaxValue}, MinFlows.{MinValue}}
use Rattle.dimacs_judging.specs.{MaxJudge.{IsMaxClaim}, MinJudge.{IsMinClaim}}
use Rattle.dimacs_decide.specs.{declared.maximum.MaxDecision.{MaxDecision}, declared.least.MinDecision.{MinDecision}}
use Rattle.dimacs_decide.specs.{CertifiedMax.{CertifiesMax}, CertifiedMin.{CertifiesMin}, MaxDecision.{DecidesMax}}
use Rattle.dimacs_decide.specs.MinDecision.{DecidesMin}
use Rattle.dimacs_decide.specs.declared.maximum.MaxDecision.TheVariants as of_max
use Rattle.dimacs_decide.specs.declared.least.MinDecision.TheVariants as of_min

-- ---- maximum
pub max_certified : (i : MaxValue) (s : SolutionValue) (x : List ℤ) (decision : MaxDecision) → IsMaxClaim i s x → DecidesMax i x decision → CertifiesMax i s decision
max_certified i s x (of_max.Optimal cut) claim outcome = (x, record { claim = claim; nodes_are = outcome.2; tight = outcome.1 }, outcome.0)
max_certified i s x (of_max.Better y) claim outcome = (x, record { claim = claim; not_maximum = outcome.0; feasible = outcome.1; greater = rw claim.value_is at outcome.2 })

-- each answer is about the claimed flow
pub max_claimed : (i : MaxValue) (s : SolutionValue) (decision : MaxDecision) → CertifiesMax i s decision → (x : List ℤ) × IsMaxClaim i s x
max_claimed i s (of_max.Optimal cut) outcome = let (x, passes, best) = outcome in (x, passes.claim)
max_claimed i s (of_max.Better y) outcome = let (x, improved) = outcome in (x, improved.claim)

-- ---- least
pub min_certified : (i : MinValue) (s : SolutionValue) (x : List ℤ) (decision : MinDecision) → IsMinClaim i s x → DecidesMin i x decision → CertifiesMin i s decision
min_certified i s x (of_min.Optimal potentials) claim outcome = (x, record { claim = claim; nodes_are = outcome.2; slack = outcome.1 }, outcome.0)
min_certified i s x (of_min.Better y) claim outcome = (x, record { claim = claim; not_least = outcome.0; feasible = outcome.1; less = rw claim.cost_is at outcome.2 })

pub min_claimed : (i : MinValue) (s : SolutionValue) (decision : MinDecision) → CertifiesMin i s decision → (x : List ℤ) × IsMinClaim i s x
min_claimed i s (of_min.Optimal potentials) outcome = let (x, passes, best) = outcome in (x, passes.claim)
min_claimed i s (of_min.Better y) outcome = let (x, improved) = outcome in (x, improved.claim)
