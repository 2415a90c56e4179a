use Rattle.std.proofs.{Common.{Err, inr, refl}, lemmas.Result.{err_from_is_err_and}}
use Rattle.dimacs_jobs.specs.declared.status.Status.TheVariants.{Done}
use Rattle.dimacs_runs.specs.{Runs.{IsPrinted, in_form}, inside.Judgings.{FaultIn, text_spells}}
use Rattle.dimacs_runs.proofs.WritingLemmas.{report_kept, report_written}
use Rattle.dimacs_runs.proofs.ReportLemmas.{unread_printed, value_printed}
use Rattle.dimacs_runs.proofs.text.print.Goals as goal

pub returns-in_ok-write_in_form-in-Ok-clause-reports : goal.returns-in_ok-write_in_form-in-Ok-clause-reports
returns-in_ok-write_in_form-in-Ok-clause-reports g c = λ bytes coming.
    let printed = in_form c.args.form g.T.Writable.canonical g.T.Writable.shown in
    let value = g.T.Writable.content c.in-Ok.value in
    (printed value, value_printed (text_spells g.T.Writable.kind g.T.Writable.spells bytes) printed value (c.in-Ok.ensures.reads bytes coming), c.in_ok-write_in_form-in-Ok.ensures.puts.accepted)

pub returns-in_err-write_in_form-in-Ok-clause-reports : goal.returns-in_err-write_in_form-in-Ok-clause-reports
returns-in_err-write_in_form-in-Ok-clause-reports g c = λ bytes coming.
    let printed = in_form c.args.form g.T.Writable.canonical g.T.Writable.shown in
    let value = g.T.Writable.content c.in-Ok.value in
    let (error, is, device) = err_from_is_err_and c.from_residual.result c.from_residual.ensures.1 in
    rw is (inr (Done, printed value, value_printed (text_spells g.T.Writable.kind g.T.Writable.spells bytes) printed value (c.in-Ok.ensures.reads bytes coming), c.in_err-write_in_form-in-Ok.ensures.puts.accepted))

pub returns-in-Err-clause-reports : goal.returns-in-Err-clause-reports
returns-in-Err-clause-reports g c = λ bytes coming.
    let printed = in_form c.args.form g.T.Writable.canonical g.T.Writable.shown in
    let text = text_spells g.T.Writable.kind g.T.Writable.spells bytes in
    report_written (FaultIn text (IsPrinted printed)) c.outcome_of-answer.result c.write_outcome.result (g.K.Sink.seen c.args.sink.now) (g.K.Sink.seen c.write_outcome.new.report)
    (rw c.outcome_of-answer.ensures (unread_printed text printed c.in-Err.ended (Err c.in-Err.ended) refl (c.in-Err.ensures.reads bytes coming))) c.write_outcome.ensures.ends

pub returns-in-Err-clause-kept : goal.returns-in-Err-clause-kept
returns-in-Err-clause-kept g c =
    report_kept c.outcome_of-answer.result c.write_outcome.result (g.K.Sink.seen c.args.sink.now) (g.K.Sink.seen c.write_outcome.new.report) c.args.kept.now c.write_outcome.new.kept c.write_outcome.ensures.ends c.write_outcome.ensures.kept
