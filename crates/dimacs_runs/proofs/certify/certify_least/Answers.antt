use Rattle.std.proofs.Common.{inl, inr}
use Rattle.dimacs_claims.specs.SolutionTexts.{GivesSolution}
use Rattle.dimacs_instance.specs.MinTexts.{GivesMin}
use Rattle.dimacs_runs.specs.{Certified.{CertifiesLeast}, inside.Outcomes.{outcome_of}, inside.Judgings.{text_of}}
use Rattle.dimacs_runs.proofs.TextLemmas.{certifying, two_end, two_stop}
use Rattle.dimacs_records.specs.declared.kinds.TextKind.TheVariants as kinds
use Rattle.dimacs_runs.proofs.certify.certify_least.Goals as goal

-- the texts were read, and the claim was answered
pub returns-clause-certifies : goal.returns-clause-certifies
returns-clause-certifies g c = λ a b first second.
    let (s, placed, solution) = c.in_ok-placed.ensures.reads b second in
    two_end certifying (text_of kinds.Min GivesMin a) (text_of kinds.Solution GivesSolution b) (λ i s. CertifiesLeast i s) c.in_ok-instance.instance s (outcome_of c.answer_least.result) (c.in_ok-instance.ensures.reads a first) solution (c.answer_least.ensures.certifies s placed)

-- the instance could not be read
pub returns-in_err-instance-clause-certifies : goal.returns-in_err-instance-clause-certifies
returns-in_err-instance-clause-certifies g c = λ a b first second.
    two_stop certifying (text_of kinds.Min GivesMin a) (text_of kinds.Solution GivesSolution b) (λ i s. CertifiesLeast i s) _ c.from_residual.result c.from_residual.ensures.1 (inl (c.in_err-instance.ensures.reads a first))

-- the solution could not be read
pub returns-in_err-placed-clause-certifies : goal.returns-in_err-placed-clause-certifies
returns-in_err-placed-clause-certifies g c = λ a b first second.
    two_stop certifying (text_of kinds.Min GivesMin a) (text_of kinds.Solution GivesSolution b) (λ i s. CertifiesLeast i s) _ c.from_residual-in_err-placed.result c.from_residual-in_err-placed.ensures.1 (inr (c.in_ok-instance.instance, c.in_ok-instance.ensures.reads a first, c.in_err-placed.ensures.reads b second))
