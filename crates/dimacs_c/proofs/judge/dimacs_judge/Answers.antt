use Rattle.std.proofs.Common.{◌∙◌, Some, ap, sym}
use Rattle.dimacs_lines.specs.Devices.{InMemory}
use Rattle.dimacs_runs.specs.Judged.{Judged}
use Rattle.dimacs_c.specs.Calls.{handed}
use Rattle.dimacs_c.proofs.CallLemmas.{answered, is_claim}
use Rattle.dimacs_c.proofs.judge.dimacs_judge.Goals as goal

pub returns : goal.returns
returns c =
    let claimed = is_claim c.in-Some.kind (Some c.new-second.result) c.args.claim.now (ap Some c.new-second.ensures) in
    let reports = c.run_judge-ended.ensures.reports c.args.instance.now c.args.claim.now c.args.certificate.now (ap Some c.new-first.ensures) claimed (ap Some c.new-third.ensures) in
    rw (sym c.judge_of.ensures ∙ c.in-Some.is) (
    answered (Judged c.in-Some.kind c.args.instance.now c.args.claim.now c.args.certificate.now) c.run_judge-ended.result c.new-sink.result.bytes c.run_judge-ended.new.sink.bytes c.end.result (handed c.args.out.now c.end.new.out c.end.new.needed)
    (ap (λ (m : InMemory). m.bytes) c.new-sink.ensures) reports (rw c.bytes.ensures at c.end.ensures)
    )
