use Rattle.dimacs_runs.proofs.FixedPoint.{printed_alike}
use Rattle.dimacs_runs.proofs.laws.canonical_is_a_fixed_point.Goals as goal

pub returns : goal.returns
returns c = printed_alike
