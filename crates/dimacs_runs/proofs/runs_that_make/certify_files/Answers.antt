use Rattle.dimacs_runs.proofs.NameLemmas.{reads_two}
use Rattle.dimacs_runs.proofs.runs_that_make.certify_files.Goals as goal

pub returns-in-Infeasible : goal.returns-in-Infeasible
returns-in-Infeasible g c = record { runs = rw c.in-Infeasible.is c.certify_instance.ensures.runs }

pub returns-in_default : goal.returns-in_default
returns-in_default g c = record { runs = rw (reads_two c.args.kind c.in_default.not-Infeasible) c.make_of_claim.ensures.runs }
