use Rattle.dimacs_runs.proofs.MakingLemmas.{writes_unnamed}
use Rattle.dimacs_runs.proofs.outcome_file.write_outcome_file.Goals as goal

pub returns-in-Some : goal.returns-in-Some
returns-in-Some g c = record { writes = rw c.in-Some.is c.write_into.ensures.writes }

pub returns-in-None : goal.returns-in-None
returns-in-None g c = record { writes = rw c.in-None.is (writes_unnamed c.args.outcome c.write_report.ensures.writes) }
