use Rattle.std.proofs.Common.{ap, inl, inr}
use Rattle.dimacs_claims.specs.{Cuts.{GivesCut}, SolutionTexts.{GivesSolution}}
use Rattle.dimacs_instance.specs.MaxTexts.{GivesMax}
use Rattle.dimacs_judging.specs.{Claims.{claimed_flow}, MaxJudge.{ShowsMaximum, max_rows}, Optimum.{Maximum}}
use Rattle.dimacs_runs.specs.{Judgings.{VerdictOr}, Verdicts.{max_line, verdict_lines}, inside.Judgings.{text_of}}
use Rattle.dimacs_runs.proofs.JudgingLemmas.{answer_alone, judge_outcome_counts, maximum_shown}
use Rattle.dimacs_runs.proofs.TextLemmas.{reporting_way, three_end, three_stop}
use Rattle.dimacs_records.specs.declared.kinds.TextKind.TheVariants as kinds
use Rattle.dimacs_runs.proofs.judge.report_max.Goals as goal

-- the texts were read, and the judge answered
pub returns-clause-reports : goal.returns-clause-reports
returns-clause-reports g c = λ a b d first second third.
    let i = c.in_ok-instance.instance in
    let k = c.in_ok-placed.cut in
    let (s, placed, solution, certificate) = c.in_ok-placed.ensures.reads b d second third in
    rw c.judge_outcome.ensures (three_end reporting_way (text_of kinds.Max GivesMax a) (text_of kinds.Solution GivesSolution b) (text_of kinds.Cut GivesCut d) (λ i s k. VerdictOr (max_rows i s k) (Maximum i (claimed_flow i.arcs s.entries)) (max_line s.value)) i s k _ (c.in_ok-instance.ensures.reads a first) solution certificate
    (answer_alone (ShowsMaximum i s k) _ (maximum_shown i s k) (max_rows i s k) _ (max_line s.value) (λ verdict is. ap verdict_lines is) c.judge_max_placed.result (c.judge_max_placed.ensures s placed)))

pub returns-clause-faults : goal.returns-clause-faults
returns-clause-faults g c = rw c.judge_outcome.ensures (judge_outcome_counts c.judge_max_placed.result _ _ _ _ c.in_ok-instance.ensures.faults c.in_ok-placed.ensures.faults)

-- the instance could not be read
pub returns-in_err-instance-clause-reports : goal.returns-in_err-instance-clause-reports
returns-in_err-instance-clause-reports g c = λ a b d first second third.
    three_stop reporting_way (text_of kinds.Max GivesMax a) (text_of kinds.Solution GivesSolution b) (text_of kinds.Cut GivesCut d) (λ i s k. VerdictOr (max_rows i s k) (Maximum i (claimed_flow i.arcs s.entries)) (max_line s.value)) _ c.from_residual.result c.from_residual.ensures.1 (inl (c.in_err-instance.ensures.reads a first))

-- another text could not be read
pub returns-in_err-placed-clause-reports : goal.returns-in_err-placed-clause-reports
returns-in_err-placed-clause-reports g c = λ a b d first second third.
    three_stop reporting_way (text_of kinds.Max GivesMax a) (text_of kinds.Solution GivesSolution b) (text_of kinds.Cut GivesCut d) (λ i s k. VerdictOr (max_rows i s k) (Maximum i (claimed_flow i.arcs s.entries)) (max_line s.value)) _ c.from_residual-in_err-placed.result c.from_residual-in_err-placed.ensures.1 (inr (c.in_ok-instance.instance, c.in_ok-instance.ensures.reads a first, c.in_err-placed.ensures.reads b d second third))
