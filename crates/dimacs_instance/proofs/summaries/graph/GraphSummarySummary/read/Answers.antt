use Rattle.dimacs_lines.specs.Lines.{lines}
use Rattle.dimacs_records.specs.{declared.kinds.TextKind.TheVariants.{Graph}, Faults.{Fault}}
use Rattle.dimacs_instance.specs.{Graph.{GivesGraph}, Summaries.{graph_summary}}
use Rattle.dimacs_instance.proofs.{GraphLemmas.{one_graph}, SummaryLemmas.{reads_summary}}
use Rattle.dimacs_instance.proofs.summaries.graph.GraphSummarySummary.read.Goals as goal

pub returns-clause-reads : goal.returns-clause-reads
returns-clause-reads g c = λ text coming.
    reads_summary Graph GivesGraph graph_summary one_graph (lines text) (Fault Graph (lines text)) c.read_counted.result (c.read_counted.ensures.reads text coming)
