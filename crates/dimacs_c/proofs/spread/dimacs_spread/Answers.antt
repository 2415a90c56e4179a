use Rattle.std.proofs.Common.{◌∙◌, [], ◌∷◌, Some, ap, sym}
use Rattle.dimacs_lines.specs.Devices.{InMemory}
use Rattle.dimacs_runs.specs.{Outputs.{WritesAlike}, Spread.{Spreads}}
use Rattle.dimacs_c.specs.Calls.{handed}
use Rattle.dimacs_c.proofs.CallLemmas.{answered_texts}
use Rattle.dimacs_c.proofs.spread.dimacs_spread.Goals as goal

pub returns : goal.returns
returns c =
    let a = c.args.instance.now in
    let b = c.args.claim.now in
    let reported = c.run_spread-ended.ensures.reports a b (ap Some c.new-first.ensures) (ap Some c.new-second.ensures) in
    let reports = rw (ap (λ (m : InMemory). m.bytes) c.new-text.ensures, ap (λ (m : InMemory). m.bytes) c.new-report.ensures) at reported in
    let handed_text = rw c.bytes.ensures at c.end.ensures in
    let printed = rw c.bytes-2.ensures at c.end-2.ensures in
    rw (sym c.spread_of.ensures ∙ c.in-Some.is) (
    answered_texts (WritesAlike (Spreads c.in-Some.kind a b)) c.run_spread-ended.result
    ((c.run_spread-ended.new.solution_out.bytes, handed c.args.solution.now c.end.new.out c.end.new.needed) ∷ (c.run_spread-ended.new.report.bytes, handed c.args.out.now c.end-2.new.out c.end-2.new.needed) ∷ [])
    c.run_spread-ended.new.report.bytes c.end-2.result (handed c.args.out.now c.end-2.new.out c.end-2.new.needed) reports ((c.end.result, handed_text), ((c.end-2.result, printed), tt)) printed
    )
