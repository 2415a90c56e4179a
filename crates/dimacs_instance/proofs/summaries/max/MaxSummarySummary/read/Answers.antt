use Rattle.dimacs_lines.specs.Lines.{lines}
use Rattle.dimacs_records.specs.{declared.kinds.TextKind.TheVariants.{Max}, Faults.{Fault}}
use Rattle.dimacs_instance.specs.{MaxTexts.{GivesMax}, Summaries.{max_summary}}
use Rattle.dimacs_instance.proofs.{MaxTextLemmas.{one_max}, SummaryLemmas.{reads_summary}}
use Rattle.dimacs_instance.proofs.summaries.max.MaxSummarySummary.read.Goals as goal

pub returns-clause-reads : goal.returns-clause-reads
returns-clause-reads g c = λ text coming.
    reads_summary Max GivesMax max_summary one_max (lines text) (Fault Max (lines text)) c.read_counted.result (c.read_counted.ensures.reads text coming)
