use Rattle.dimacs_runs.proofs.runs_that_make.make.Goals as goal

pub returns-in-Certify-clause-possible : goal.returns-in-Certify-clause-possible
returns-in-Certify-clause-possible g c a b first second = rw c.in-Certify.is (c.certify_claim.ensures.certifies a b first (λ some. second))

pub returns-in-Spread-clause-possible : goal.returns-in-Spread-clause-possible
returns-in-Spread-clause-possible g c a b first second = rw c.in-Spread.is (c.spread_claim.ensures.spreads a b first second)
