use Rattle.std.proofs.{Common.{rules}, lemmas.Int.{to_z-of_z}}
use Rattle.std.specs.Int.{w128}
use Rattle.dimacs_claims.specs.SolutionTexts.{GivesSolution, claimed}
use Rattle.dimacs_instance.specs.MinTexts.{GivesMin}
use Rattle.dimacs_jobs.specs.declared.jobs.SpreadKind.TheVariants.{Min}
use Rattle.dimacs_runs.specs.{Spread.{SpreadsClaim}, inside.Outcomes.{outcome_of}, inside.Judgings.{text_of}}
use Rattle.dimacs_runs.proofs.{SpreadLemmas.{min_deals}, SolvingLemmas.{counts_none}}
use Rattle.dimacs_runs.proofs.TextLemmas.{certifying, two_end, two_stop}
use Rattle.dimacs_records.specs.declared.kinds.TextKind.TheVariants as kinds
use Rattle.dimacs_runs.proofs.spread.spread_least.Goals as goal

-- the texts were read, and the claim was dealt out
pub returns-clause-spreads : goal.returns-clause-spreads
returns-clause-spreads g c = λ a b first second.
    let read = c.in_ok-instance.ensures.reads a b first second in
    let solution = claimed c.in_ok-instance.claim in
    let flow = c.spread_min-flow in
    let deals = min_deals c.in_ok-instance.instance.arcs solution flow.result flow.ensures.deals flow.ensures.least (flow.ensures.tested, flow.ensures.refused) in
    two_end certifying (text_of kinds.Min GivesMin a) (text_of kinds.Solution GivesSolution b) (λ i s. SpreadsClaim Min i.arcs s) _ solution (outcome_of c.answer_spread.result) read.0 read.1
    (rw c.network.ensures.arcs at (c.answer_spread.ensures.spreads Min) solution (to_z-of_z w128 c.in_ok-instance.claim.value (search rules)) deals)

pub returns-clause-faults : goal.returns-clause-faults
returns-clause-faults g c = counts_none (outcome_of c.answer_spread.result) _ _ c.answer_spread.ensures.no_device c.in_ok-instance.ensures.faults

-- a text could not be read
pub returns-in_err-instance-clause-spreads : goal.returns-in_err-instance-clause-spreads
returns-in_err-instance-clause-spreads g c = λ a b first second.
    two_stop certifying (text_of kinds.Min GivesMin a) (text_of kinds.Solution GivesSolution b) (λ i s. SpreadsClaim Min i.arcs s) _ c.from_residual.result c.from_residual.ensures.1 (c.in_err-instance.ensures.reads a b first second)
