use Rattle.std.proofs.Common.{◌∙◌, Some, ap, sym}
use Rattle.dimacs_lines.specs.Devices.{InMemory}
use Rattle.dimacs_runs.specs.{Runs.{Prints}, declared.text.TextForm.TheVariants.{Canonical}}
use Rattle.dimacs_c.specs.Calls.{handed}
use Rattle.dimacs_c.proofs.CallLemmas.{answered}
use Rattle.dimacs_c.proofs.texts.dimacs_convert.Goals as goal

pub returns : goal.returns
returns c =
    let reports = c.run_convert-ended.ensures.reports c.args.text.now (ap Some c.new-source.ensures) in
    rw (sym c.text_of.ensures ∙ c.in-Some.is) (
    answered (Prints Canonical c.in-Some.kind c.args.text.now) c.run_convert-ended.result c.new-sink.result.bytes c.run_convert-ended.new.sink.bytes c.end.result (handed c.args.out.now c.end.new.out c.end.new.needed)
    (ap (λ (m : InMemory). m.bytes) c.new-sink.ensures) reports (rw c.bytes.ensures at c.end.ensures)
    )
