use Rattle.dimacs_runs.proofs.JudgedYes.{solved_yes}
use Rattle.dimacs_runs.proofs.laws.solved_is_judged_yes.Goals as goal

pub returns : goal.returns
returns c = solved_yes
