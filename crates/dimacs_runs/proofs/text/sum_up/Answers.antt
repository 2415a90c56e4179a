use Rattle.std.proofs.{Common.{Err, inr, refl}, lemmas.Result.{err_from_is_err_and}}
use Rattle.dimacs_jobs.specs.declared.status.Status.TheVariants.{Done}
use Rattle.dimacs_runs.specs.{Runs.{IsPrinted}, inside.Judgings.{FaultIn, text_spells}}
use Rattle.dimacs_runs.proofs.WritingLemmas.{report_kept, report_written}
use Rattle.dimacs_runs.proofs.ReportLemmas.{unread_printed, value_printed}
use Rattle.dimacs_runs.proofs.text.sum_up.Goals as goal

pub returns-in_ok-show-in-Ok-clause-reports : goal.returns-in_ok-show-in-Ok-clause-reports
returns-in_ok-show-in-Ok-clause-reports g c = λ bytes coming.
    let read = c.in-Ok.ensures.reads bytes coming in
    (g.T.Summary.shown read.0, value_printed (text_spells g.T.Summary.kind g.T.Summary.spells bytes) g.T.Summary.shown read.0 read.2, rw (c.in-Ok.ensures.enough read.0 read.1) at c.in_ok-show-in-Ok.ensures.puts.accepted)

pub returns-in_err-show-in-Ok-clause-reports : goal.returns-in_err-show-in-Ok-clause-reports
returns-in_err-show-in-Ok-clause-reports g c = λ bytes coming.
    let read = c.in-Ok.ensures.reads bytes coming in
    let (error, is, device) = err_from_is_err_and c.from_residual.result c.from_residual.ensures.1 in
    rw is (inr (Done, g.T.Summary.shown read.0, value_printed (text_spells g.T.Summary.kind g.T.Summary.spells bytes) g.T.Summary.shown read.0 read.2, rw (c.in-Ok.ensures.enough read.0 read.1) at c.in_err-show-in-Ok.ensures.puts.accepted))

pub returns-in-Err-clause-reports : goal.returns-in-Err-clause-reports
returns-in-Err-clause-reports g c = λ bytes coming.
    let text = text_spells g.T.Summary.kind g.T.Summary.spells bytes in
    report_written (FaultIn text (IsPrinted g.T.Summary.shown)) c.outcome_of-answer.result c.write_outcome.result (g.K.Sink.seen c.args.sink.now) (g.K.Sink.seen c.write_outcome.new.report)
    (rw c.outcome_of-answer.ensures (unread_printed text g.T.Summary.shown c.in-Err.ended (Err c.in-Err.ended) refl (c.in-Err.ensures.reads bytes coming))) c.write_outcome.ensures.ends

pub returns-in-Err-clause-kept : goal.returns-in-Err-clause-kept
returns-in-Err-clause-kept g c =
    report_kept c.outcome_of-answer.result c.write_outcome.result (g.K.Sink.seen c.args.sink.now) (g.K.Sink.seen c.write_outcome.new.report) c.args.kept.now c.write_outcome.new.kept c.write_outcome.ensures.ends c.write_outcome.ensures.kept
