use Rattle.std.proofs.Common.{ap}
use Rattle.dimacs_claims.specs.Cuts.{GivesCut}
use Rattle.dimacs_instance.specs.MinTexts.{GivesMin}
use Rattle.dimacs_judging.specs.{InfeasibleJudge.{ShowsNoFlow, infeasible_rows}, Optimum.{NoFlow}}
use Rattle.dimacs_runs.specs.{Judgings.{VerdictOr}, Verdicts.{infeasible_line, verdict_lines}}
use Rattle.dimacs_runs.specs.inside.Judgings.{text_of}
use Rattle.dimacs_runs.proofs.{JudgingLemmas.{answer_alone}, TextLemmas.{reporting_way, two_end, two_stop}}
use Rattle.dimacs_records.specs.declared.kinds.TextKind.TheVariants as kinds
use Rattle.dimacs_runs.proofs.judge.report_infeasible.Goals as goal

-- the texts were read, and the judge answered
pub returns-clause-reports : goal.returns-clause-reports
returns-clause-reports g c = λ a b first second.
    let read = c.in_ok-instance.ensures.reads a b first second in
    let i = c.in_ok-instance.instance in
    let k = c.in_ok-instance.set in
    rw c.judge_outcome.ensures (two_end reporting_way (text_of kinds.Min GivesMin a) (text_of kinds.Cut GivesCut b) (λ i k. VerdictOr (infeasible_rows i k) (NoFlow i) infeasible_line) i k _ read.0 read.1
    (answer_alone (ShowsNoFlow i k) _ (λ shown. shown.1) (infeasible_rows i k) _ infeasible_line (λ verdict is. ap verdict_lines is) c.judge_infeasible.result c.judge_infeasible.ensures.judges))

-- a text could not be read
pub returns-in_err-instance-clause-reports : goal.returns-in_err-instance-clause-reports
returns-in_err-instance-clause-reports g c = λ a b first second.
    two_stop reporting_way (text_of kinds.Min GivesMin a) (text_of kinds.Cut GivesCut b) (λ i k. VerdictOr (infeasible_rows i k) (NoFlow i) infeasible_line) _ c.from_residual.result c.from_residual.ensures.1 (c.in_err-instance.ensures.reads a b first second)
