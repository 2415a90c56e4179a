use Rattle.std.proofs.Common.{◌∙◌, [], ◌∷◌, Some, ap, sym}
use Rattle.dimacs_lines.specs.Devices.{InMemory}
use Rattle.dimacs_runs.specs.{Outputs.{MayWrite}, Solved.{Solved}}
use Rattle.dimacs_c.specs.Calls.{handed}
use Rattle.dimacs_c.proofs.CallLemmas.{answered_texts, are_queries}
use Rattle.dimacs_c.proofs.solve.dimacs_solve.Goals as goal

pub returns : goal.returns
returns c =
    let a = c.args.instance.now in
    let b = c.args.queries.now in
    let asked = are_queries c.in-Some.job (Some c.new-second.result) b (ap Some c.new-second.ensures) in
    let reported = c.run_solve-ended.ensures.reports a b (ap Some c.new-first.ensures) asked in
    let reports = rw (ap (λ (m : InMemory). m.bytes) c.new-claim.ensures, ap (λ (m : InMemory). m.bytes) c.new-text.ensures, ap (λ (m : InMemory). m.bytes) c.new-report.ensures) at reported in
    let claim = rw c.bytes.ensures at c.end.ensures in
    let handed_text = rw c.bytes-2.ensures at c.end-2.ensures in
    let printed = rw c.bytes-3.ensures at c.end-3.ensures in
    rw (sym c.solve_of.ensures ∙ c.in-Some.is) (
    answered_texts (MayWrite (Solved c.in-Some.job a b)) c.run_solve-ended.result
    ((c.run_solve-ended.new.claim_out.bytes, handed c.args.solution.now c.end.new.out c.end.new.needed) ∷ (c.run_solve-ended.new.certificate_out.bytes, handed c.args.certificate.now c.end-2.new.out c.end-2.new.needed)
    ∷ (c.run_solve-ended.new.report.bytes, handed c.args.out.now c.end-3.new.out c.end-3.new.needed) ∷ [])
    c.run_solve-ended.new.report.bytes c.end-3.result (handed c.args.out.now c.end-3.new.out c.end-3.new.needed) reports ((c.end.result, claim), ((c.end-2.result, handed_text), ((c.end-3.result, printed), tt))) printed
    )
