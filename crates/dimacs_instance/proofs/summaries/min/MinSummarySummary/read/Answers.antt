use Rattle.std.proofs.{Common.{Err, Ok}, lemmas.Result.{err_from_is_err_and}}
use Rattle.dimacs_lines.specs.Lines.{lines}
use Rattle.dimacs_records.specs.{declared.kinds.TextKind.TheVariants.{Min}, Faults.{Fault}}
use Rattle.dimacs_instance.specs.{MinTexts.{GivesMin}, Summaries.{min_nodes}}
use Rattle.dimacs_instance.proofs.{MinTextLemmas.{one_min}, SummaryLemmas.{reads_summary}}
use Rattle.dimacs_instance.proofs.summaries.min.MinSummarySummary.read.Goals as goal

pub returns-in_err-read_counted-clause-reads : goal.returns-in_err-read_counted-clause-reads
returns-in_err-read_counted-clause-reads g c = λ text coming.
    let p = err_from_is_err_and c.from_residual.result c.from_residual.ensures.1 in
    rw (p.1, p.2) (reads_summary Min GivesMin min_nodes one_min (lines text) (Fault Min (lines text)) (Err c.in_err-read_counted.field-0.0) (c.in_err-read_counted.ensures.reads text coming))

pub returns-clause-reads : goal.returns-clause-reads
returns-clause-reads g c = λ text coming.
    let (m, nodes, reads) = reads_summary Min GivesMin min_nodes one_min (lines text) (Fault Min (lines text)) (Ok c.in_ok-read_counted.field-0) (c.in_ok-read_counted.ensures.reads text coming) in
    (m, c.summary.ensures m nodes, reads)
