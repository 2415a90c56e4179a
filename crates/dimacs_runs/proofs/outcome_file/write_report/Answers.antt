use Rattle.dimacs_runs.proofs.MakingLemmas.{report_alone}
use Rattle.dimacs_runs.proofs.outcome_file.write_report.Goals as goal

pub returns : goal.returns
returns g c = record { writes = report_alone c.args.outcome c.write_outcome-ended.result c.name_failure.ensures c.write_outcome-ended.ensures.ends }
