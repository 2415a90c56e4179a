-- The reports of runs, as lines.
use Rattle.std.specs.Prelude.{ℕ, List, []}
use Rattle.dimacs_runs.specs.{declared.report.Report.{Report}, Refusals.{refusal_line}, Runs.{text_word}}
use Rattle.dimacs_runs.specs.declared.report.Report.TheVariants.{Yes, Distances, No, Refused, GaveUp, Nothing}
use Rattle.dimacs_runs.specs.Verdicts.{distances_line, failure_line, gave_up_line, verdict_lines}

abbrev pub report_lines : Report → List ℕ
report_lines (Yes verdict) = verdict_lines verdict
report_lines (Distances sources) = distances_line sources
report_lines (No place reason) = failure_line place reason
report_lines (Refused kind place reason) = refusal_line (text_word kind) place.line place.field reason
report_lines GaveUp = gave_up_line
report_lines Nothing = []
