use Rattle.dimacs_explained.proofs.run.explain_job.Goals as goal

-- the run, then the explanation
pub returns : goal.returns
returns g c = record { explains = (_, _, c.run_and_keep-ended.ensures.runs, c.write_explanation.ensures.follows) }
