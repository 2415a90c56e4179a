use Rattle.dimacs_records.specs.declared.kinds.TextKind.TheVariants as kinds
use Rattle.dimacs_instance.specs.MinTexts.{GivesMin}
use Rattle.dimacs_runs.specs.{Certified.{CertifiesInfeasible}, inside.Outcomes.{outcome_of}, inside.Judgings.{text_of}}
use Rattle.dimacs_runs.proofs.TextLemmas.{certifying, stop_ends, value_ends}
use Rattle.dimacs_runs.proofs.certify_infeasible.certify_infeasible.Goals as goal

-- the instance was read, and the question was answered
pub returns-clause-certifies : goal.returns-clause-certifies
returns-clause-certifies g c = λ a coming.
    value_ends certifying (text_of kinds.Min GivesMin a) (λ i. CertifiesInfeasible i) c.in_ok-instance.instance (outcome_of c.answer_infeasible.result) (c.in_ok-instance.ensures.reads a coming) c.answer_infeasible.ensures.certifies

-- the instance could not be read
pub returns-in_err-instance-clause-certifies : goal.returns-in_err-instance-clause-certifies
returns-in_err-instance-clause-certifies g c = λ a coming.
    stop_ends certifying (text_of kinds.Min GivesMin a) (λ i. CertifiesInfeasible i) _ c.from_residual.result c.from_residual.ensures.1 (c.in_err-instance.ensures.reads a coming)
