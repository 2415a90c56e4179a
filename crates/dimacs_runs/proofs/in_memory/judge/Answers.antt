use Rattle.std.proofs.{Common.{[], Some, ap}, lemmas.Bool.{false≢true}}
use Rattle.dimacs_runs.specs.Judged.{Judged}
use Rattle.dimacs_jobs.specs.declared.jobs.JudgeKind.TheVariants.{Infeasible}
use Rattle.dimacs_runs.proofs.InMemoryLemmas.{claim_judged, only_reported}
use Rattle.dimacs_runs.proofs.in_memory.judge.Goals as goal

pub returns-in-Infeasible : goal.returns-in-Infeasible
returns-in-Infeasible c =
    let a = c.args.texts.first.now in
    let b = c.args.texts.second.now in
    let reports = rw c.in-Infeasible.is at c.judge_texts.ensures.reports in
    let may = reports a [] b (ap Some c.new-first.ensures) (λ some. absurd (false≢true some)) (ap Some c.new-second.ensures) in
    record { makes = rw c.in-Infeasible.is (only_reported (Judged Infeasible a [] b) c.judge_texts.result c.report.result may c.report.ensures.keeps c.report.ensures.alone); kept = c.report.ensures.kept }

pub returns-in_default : goal.returns-in_default
returns-in_default c =
    let a = c.args.texts.first.now in
    let b = c.args.texts.second.now in
    let d = c.args.texts.third.now in
    let may = c.judge_texts-in_default.ensures.reports a b d (ap Some c.new-first.ensures) (λ some. ap Some c.new-second.ensures) (ap Some c.new-third.ensures) in
    let reports = only_reported (Judged c.args.kind a b d) c.judge_texts-in_default.result c.report-in_default.result may c.report-in_default.ensures.keeps c.report-in_default.ensures.alone in
    record { makes = claim_judged c.args.kind a b d c.report-in_default.result c.in_default.not-Infeasible reports; kept = c.report-in_default.ensures.kept }
