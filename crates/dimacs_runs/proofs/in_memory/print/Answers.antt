use Rattle.std.proofs.Common.{◌≡◌, ◌∙◌, ◌++◌, Some, ap}
use Rattle.dimacs_lines.specs.Devices.{InMemory}
use Rattle.dimacs_runs.proofs.InMemoryLemmas.{kept_printed}
use Rattle.dimacs_runs.proofs.in_memory.print.Goals as goal

pub returns-in-Ok-clause-reports : goal.returns-in-Ok-clause-reports
returns-in-Ok-clause-reports c =
    let r = c.in-Ok.ensures.reports c.args.text.now (ap Some c.new.ensures) in
    let same : c.run_text.new.sink.bytes ≡ c.new-printed.result.bytes ++ r.0 = cc in
    let whole : c.run_text.new.sink.bytes ≡ r.0 = same ∙ ap (λ (m : InMemory). m.bytes ++ r.0) c.new-printed.ensures in
    let empty = λ (m : InMemory). m.bytes in
    (rw whole r.1, ap empty c.new-in-Ok.ensures, ap empty c.new-in-Ok-2.ensures)

pub returns-in-Ok-clause-kept : goal.returns-in-Ok-clause-kept
returns-in-Ok-clause-kept c = kept_printed _ _ c.new-printed.result.faults c.run_text.new.sink.faults _ (ap (λ (m : InMemory). m.bytes) c.new-printed.ensures) c.in-Ok.ensures.kept
