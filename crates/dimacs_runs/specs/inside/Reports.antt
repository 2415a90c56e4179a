-- Inside: the reports of runs, as a status.
use Rattle.dimacs_jobs.specs.declared.status.Status.{Status}
use Rattle.dimacs_runs.specs.declared.report.Report.{Report}
use Rattle.dimacs_runs.specs.declared.report.Report.TheVariants.{Yes, Distances, No, Refused, GaveUp, Nothing}
use Rattle.dimacs_jobs.specs.declared.status.Status.TheVariants as statuses

abbrev pub report_status : Report → Status
report_status (Yes verdict) = statuses.Done
report_status (Distances sources) = statuses.Done
report_status (No place reason) = statuses.Refused
report_status (Refused kind place reason) = statuses.Refused
report_status GaveUp = statuses.GaveUp
report_status Nothing = statuses.Done
