use Rattle.dimacs_runs.proofs.spread.spread_claim.Goals as goal
use Rattle.dimacs_runs.proofs.spread.spread_claim.Goals.{in-Max, in-Min}

pub returns-clause-spreads : goal.returns-clause-spreads
returns-clause-spreads g c = λ a b first second.
    rw c.outcome_of.ensures (elim c.match-kind.branch [
      | in-Max w ↦ rw (w.in-Max.is, w.outcome_of-is) (w.spread_maximum.ensures.spreads a b first second)
      | in-Min w ↦ rw (w.in-Min.is, w.outcome_of-is) (w.spread_least.ensures.spreads a b first second)
    ])
