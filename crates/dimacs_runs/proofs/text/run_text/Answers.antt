use Rattle.dimacs_runs.proofs.text.run_text.Goals as goal

pub returns-in-Summary-Max-clause-reports : goal.returns-in-Summary-Max-clause-reports
returns-in-Summary-Max-clause-reports g c = λ bytes coming. rw (c.in-Summary-Max.is-0, c.in-Summary-Max.is-1) (c.sum_up.ensures.reports bytes coming)

pub returns-in-Summary-Min-clause-reports : goal.returns-in-Summary-Min-clause-reports
returns-in-Summary-Min-clause-reports g c = λ bytes coming. rw (c.in-Summary-Min.is-0, c.in-Summary-Min.is-1) (c.sum_up-in-Summary-Min.ensures.reports bytes coming)

pub returns-in-Summary-Graph-clause-reports : goal.returns-in-Summary-Graph-clause-reports
returns-in-Summary-Graph-clause-reports g c = λ bytes coming. rw (c.in-Summary-Graph.is-0, c.in-Summary-Graph.is-1) (c.sum_up-in-Summary-Graph.ensures.reports bytes coming)
