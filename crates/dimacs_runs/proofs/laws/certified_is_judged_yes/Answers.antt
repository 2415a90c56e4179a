use Rattle.dimacs_runs.proofs.JudgedYes.{certified_yes}
use Rattle.dimacs_runs.proofs.laws.certified_is_judged_yes.Goals as goal

pub returns : goal.returns
returns c = certified_yes
