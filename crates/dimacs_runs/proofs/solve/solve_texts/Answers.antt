use Rattle.std.proofs.Common.{subst}
use Rattle.dimacs_jobs.specs.declared.jobs.SolveJob.{SolveJob}
use Rattle.dimacs_runs.specs.Solved.{AreQueries}
use Rattle.dimacs_runs.proofs.solve.solve_texts.Goals.{in-Max, in-Min, in-Paths}
use Rattle.dimacs_runs.proofs.solve.solve_texts.Goals as goal

pub returns-clause-solves : goal.returns-clause-solves
returns-clause-solves g c = λ a b first second.
    rw c.outcome_of.ensures (elim c.match-job.branch [
      | in-Max w ↦ rw (w.in-Max.is, w.outcome_of-is) (w.solve_maximum.ensures.solves a first)
      | in-Min w ↦ rw (w.in-Min.is, w.outcome_of-is) (w.solve_least.ensures.solves a first)
      | in-Paths w ↦ let queries = subst (λ (k : SolveJob). AreQueries k (g.Q.Source.coming c.args.queries.now) b) w.in-Paths.is second in rw (w.in-Paths.is, w.outcome_of-is) (w.solve_labels.ensures.solves a b first queries)
    ])

pub returns-clause-nothing_made : goal.returns-clause-nothing_made
returns-clause-nothing_made g c = λ is.
    elim c.match-job.branch [
      | in-Max w ↦ let other = w.in-Max.is in absurd cc
      | in-Min w ↦ let other = w.in-Min.is in absurd cc
      | in-Paths w ↦ rw (c.outcome_of.ensures, w.outcome_of-is) w.solve_labels.ensures.nothing_made
    ]
