-- Certifying that a claimed flow is maximum.
use Rattle.std.specs.Prelude.{List, ℤ, ◌<ℤ◌}
use Rattle.dimacs_claims.specs.SolutionTexts.{SolutionValue}
use Rattle.dimacs_instance.specs.MaxFlows.{MaxValue}
use Rattle.dimacs_judging.specs.{Feasible.{FeasibleMax, value}, MaxJudge.{IsMaxClaim, ShowsMaximum}, Optimum.{Maximum}}
use Rattle.dimacs_decide.specs.declared.maximum.MaxDecision.{MaxDecision}
use Rattle.dimacs_decide.specs.declared.maximum.MaxDecision.TheVariants.{Optimal, Better}

-- x is the claimed flow and isn't maximum; y is feasible and has a greater value
pub record IsMaxImproved (i : MaxValue) (s : SolutionValue) (x y : List ℤ) : Type 0 where
  pub claim : IsMaxClaim i s x
  pub not_maximum : ¬ Maximum i x
  pub feasible : FeasibleMax i y
  pub greater : s.value <ℤ value i y

-- the cut shows that the claimed flow is maximum; or it isn't, and the other flow is better
abbrev pub CertifiesMax : MaxValue → SolutionValue → MaxDecision → Type 0
CertifiesMax i s (Optimal cut) = ShowsMaximum i s cut
CertifiesMax i s (Better y) = (x : List ℤ) × IsMaxImproved i s x y
