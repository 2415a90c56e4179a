use Rattle.std.proofs.Common.{inl, inr}
use Rattle.dimacs_claims.specs.LabelTexts.{GivesLabels}
use Rattle.dimacs_instance.specs.{Graph.{GivesGraph}, QueryTexts.{GivesQueries, asked}}
use Rattle.dimacs_judging.specs.{PathsJudge.{AnswersAreDistances, ShowsDistances, paths_rows}, Labels.{AreDistances}}
use Rattle.dimacs_runs.specs.{Judged.{paths_lines}, Judgings.{VerdictOr}, inside.Judgings.{text_of}}
use Rattle.dimacs_runs.proofs.JudgingLemmas.{answer_alone, judge_outcome_counts, paths_said}
use Rattle.dimacs_runs.proofs.TextLemmas.{reporting_way, three_end, three_stop}
use Rattle.dimacs_records.specs.declared.kinds.TextKind.TheVariants as kinds
use Rattle.dimacs_runs.proofs.judge.report_paths.Goals as goal

-- the texts were read, and the judge answered
pub returns-clause-reports : goal.returns-clause-reports
returns-clause-reports g c = λ a b d first second third.
    let read = c.in_ok-queries.ensures.reads b d second third in
    let i = c.in_ok-graph.graph in
    let q = asked c.in_ok-queries.queries in
    let l = c.in_ok-queries.labels in
    rw c.judge_outcome.ensures (three_end reporting_way (text_of kinds.Graph GivesGraph a) (text_of kinds.Queries GivesQueries b) (text_of kinds.Labels GivesLabels d) (λ i q l. VerdictOr (paths_rows i q l) (AreDistances i.arcs l.blocks × AnswersAreDistances i.arcs l.blocks q) (paths_lines l.blocks q)) i q l _ (c.in_ok-graph.ensures.reads a first) read.0 read.1
    (answer_alone (ShowsDistances i q l) _ (λ shown. (shown.labels, shown.answers)) (paths_rows i q l) _ (paths_lines l.blocks q) (λ verdict is. paths_said l.blocks q verdict is) c.judge_paths.result (rw c.in_ok-index_for.ensures at c.judge_paths.ensures)))

pub returns-clause-faults : goal.returns-clause-faults
returns-clause-faults g c = rw c.judge_outcome.ensures (judge_outcome_counts c.judge_paths.result _ _ _ _ c.in_ok-graph.ensures.faults c.in_ok-queries.ensures.faults)

-- the graph could not be read
pub returns-in_err-graph-clause-reports : goal.returns-in_err-graph-clause-reports
returns-in_err-graph-clause-reports g c = λ a b d first second third.
    three_stop reporting_way (text_of kinds.Graph GivesGraph a) (text_of kinds.Queries GivesQueries b) (text_of kinds.Labels GivesLabels d) (λ i q l. VerdictOr (paths_rows i q l) (AreDistances i.arcs l.blocks × AnswersAreDistances i.arcs l.blocks q) (paths_lines l.blocks q)) _ c.from_residual.result c.from_residual.ensures.1 (inl (c.in_err-graph.ensures.reads a first))

-- another text could not be read
pub returns-in_err-queries-clause-reports : goal.returns-in_err-queries-clause-reports
returns-in_err-queries-clause-reports g c = λ a b d first second third.
    three_stop reporting_way (text_of kinds.Graph GivesGraph a) (text_of kinds.Queries GivesQueries b) (text_of kinds.Labels GivesLabels d) (λ i q l. VerdictOr (paths_rows i q l) (AreDistances i.arcs l.blocks × AnswersAreDistances i.arcs l.blocks q) (paths_lines l.blocks q)) _ c.from_residual-in_err-queries.result c.from_residual-in_err-queries.ensures.1 (inr (c.in_ok-graph.graph, c.in_ok-graph.ensures.reads a first, c.in_err-queries.ensures.reads b d second third))
