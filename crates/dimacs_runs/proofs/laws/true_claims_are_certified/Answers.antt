use Rattle.dimacs_runs.proofs.TrueClaims.{certified_exactly}
use Rattle.dimacs_runs.proofs.laws.true_claims_are_certified.Goals as goal

pub returns : goal.returns
returns c = certified_exactly
