use Rattle.dimacs_runs.proofs.TrueClaims.{never_gives_up}
use Rattle.dimacs_runs.proofs.laws.enough_limit_never_gives_up.Goals as goal

pub returns : goal.returns
returns c = never_gives_up
