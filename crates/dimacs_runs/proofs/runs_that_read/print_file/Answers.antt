use Rattle.std.proofs.Common.{ℕ, ◌∙◌, List, [], ◌∷◌, ap, refl}
use Rattle.std.specs.String.{string_bytes}
use Rattle.dimacs_lines.specs.Devices.{Written}
use Rattle.dimacs_runs.specs.{Commands.{ReportsOne}, Files.{closed_read}, Runs.{Prints}, inside.Commands.{named}}
use Rattle.dimacs_runs.proofs.{FileLemmas.{one_first}, NameLemmas.{one_name}}
use Rattle.dimacs_runs.proofs.PlanLemmas.{each_text, one_of, reports_named, sees_nothing, stops_opening, uses_files}
use Rattle.dimacs_runs.proofs.runs_that_read.print_file.Goals as goal

pub returns-in_err-text : goal.returns-in_err-text
returns-in_err-text g c =
    let only = one_name string_bytes c.args.names.now c.name-item.result c.as_str.result.now c.requires c.name-item.is c.as_str.ensures.value in
    record { runs = rw only (stops_opening [] [] refl c.from_residual.ensures.1 (sees_nothing _) c.in_err-text.ensures.failed) }

pub returns : goal.returns
returns g c =
    let only = one_name string_bytes c.args.names.now c.name-item.result c.as_str.result.now c.requires c.name-item.is c.as_str.ensures.value in
    let old = (g.K.Sink.seen c.args.output.now).accepted in
    let new = (g.K.Sink.seen c.run_text-ended.new.sink).accepted in
    let faults = g.F.Input.Source.faults c.run_text-ended.new.text in
    let quiet = rw c.in_ok-text.ensures.faultless at c.run_text-ended.ensures.nothing_written in
    record {
      runs = rw only (uses_files (record { name = c.in_ok-text.text.name.now; faults = faults } ∷ []) [] _ _
          (ap (λ (n : List ℕ). n ∷ []) c.in_ok-text.ensures.named) refl c.in_ok-text.ensures.opened c.close_read-failure.ensures.seen c.name_failure.ensures
          (one_first _ (closed_read c.in_ok-text.text.name.now faults) c.close_read-failure.ensures.failure)
          (rw c.in_ok-text.ensures.faultless at c.run_text-ended.ensures.faults)
          (each_text (_ ∷ []) (λ (texts : List (List ℕ)). ReportsOne (Prints c.args.form c.args.kind) texts (named _ _) (old ∷ []) (new ∷ [])) (λ bytes is. reports_named (Prints c.args.form c.args.kind bytes) _ _ old new (c.run_text-ended.ensures.reports bytes (c.in_ok-text.ensures.coming ∙ is))))
          (λ memory. ap (λ (w : Written). w.accepted ∷ []) (c.run_text-ended.ensures.memory memory))
          (λ unread. ap (λ (w : Written). w.accepted ∷ []) (quiet (one_of unread))));
    }
