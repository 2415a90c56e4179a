-- Certifying that a claimed flow costs least.
use Rattle.std.specs.Prelude.{List, ℤ, ◌<ℤ◌}
use Rattle.dimacs_claims.specs.SolutionTexts.{SolutionValue}
use Rattle.dimacs_instance.specs.MinFlows.{MinValue}
use Rattle.dimacs_judging.specs.{Feasible.{FeasibleMin}, Flows.{cost}, MinJudge.{IsMinClaim, ShowsLeast}}
use Rattle.dimacs_judging.specs.Optimum.{Least}
use Rattle.dimacs_decide.specs.declared.least.MinDecision.{MinDecision}
use Rattle.dimacs_decide.specs.declared.least.MinDecision.TheVariants.{Optimal, Better}

-- x is the claimed flow and doesn't cost least; y is feasible and costs less
pub record IsMinImproved (i : MinValue) (s : SolutionValue) (x y : List ℤ) : Type 0 where
  pub claim : IsMinClaim i s x
  pub not_least : ¬ Least i x
  pub feasible : FeasibleMin i y
  pub less : cost i.arcs y <ℤ s.value

-- the potentials show that the claimed flow costs least; or it doesn't, and the other flow is better
abbrev pub CertifiesMin : MinValue → SolutionValue → MinDecision → Type 0
CertifiesMin i s (Optimal potentials) = ShowsLeast i s potentials
CertifiesMin i s (Better y) = (x : List ℤ) × IsMinImproved i s x y
