use Rattle.dimacs_runs.specs.Judged.{Judged}
use Rattle.dimacs_runs.proofs.WritingLemmas.{report_written}
use Rattle.dimacs_runs.proofs.judge.run_judge.Goals as goal

pub returns-clause-reports : goal.returns-clause-reports
returns-clause-reports g c = λ a b d first second third.
    report_written (Judged c.args.kind a b d) c.judge_texts-outcome.result c.write_outcome.result (g.K.Sink.seen c.args.sink.now) (g.K.Sink.seen c.write_outcome.new.report)
    (c.judge_texts-outcome.ensures.reports a b d first second third) c.write_outcome.ensures.ends
