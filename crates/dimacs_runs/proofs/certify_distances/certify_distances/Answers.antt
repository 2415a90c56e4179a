use Rattle.dimacs_records.specs.declared.kinds.TextKind.TheVariants as kinds
use Rattle.dimacs_claims.specs.DistanceTexts.{GivesDistances}
use Rattle.dimacs_instance.specs.Graph.{GivesGraph}
use Rattle.dimacs_runs.specs.{Certified.{CertifiesDistances}, inside.Outcomes.{outcome_of}, inside.Judgings.{text_of}}
use Rattle.dimacs_runs.proofs.{LabelCounts.{distances_fit}, SolvingLemmas.{counts_none}}
use Rattle.dimacs_runs.proofs.TextLemmas.{certifying, two_end, two_stop}
use Rattle.dimacs_runs.proofs.certify_distances.certify_distances.Goals as goal

-- the texts were read, and the claim was answered
pub returns-clause-certifies : goal.returns-clause-certifies
returns-clause-certifies g c = λ a b first second.
    let read = c.in_ok-graph.ensures.reads a b first second in
    two_end certifying (text_of kinds.Graph GivesGraph a) (text_of kinds.Distances GivesDistances b) (λ g d. CertifiesDistances g d) c.in_ok-graph.graph c.in_ok-graph.distances (outcome_of c.answer_distances.result) read.0 read.1 (c.answer_distances.ensures.certifies (distances_fit b c.in_ok-graph.distances read.1.0))

pub returns-clause-faults : goal.returns-clause-faults
returns-clause-faults g c = counts_none (outcome_of c.answer_distances.result) _ _ c.answer_distances.ensures.no_device c.in_ok-graph.ensures.faults

-- a text could not be read
pub returns-in_err-graph-clause-certifies : goal.returns-in_err-graph-clause-certifies
returns-in_err-graph-clause-certifies g c = λ a b first second.
    two_stop certifying (text_of kinds.Graph GivesGraph a) (text_of kinds.Distances GivesDistances b) (λ g d. CertifiesDistances g d) _ c.from_residual.result c.from_residual.ensures.1 (c.in_err-graph.ensures.reads a b first second)
