use Rattle.std.proofs.Common.{[], ◌∷◌}
use Rattle.dimacs_runs.specs.{Outputs.{MayWrite}, Solved.{Solved}}
use Rattle.dimacs_runs.proofs.WritingLemmas.{all_written}
use Rattle.dimacs_runs.proofs.solve.run_solve.Goals as goal

pub returns-clause-reports : goal.returns-clause-reports
returns-clause-reports g c = λ a b first second.
    all_written (MayWrite (Solved c.args.job a b)) c.solve_texts-outcome.result c.write_outcome.result
    (g.C.Sink.seen c.args.claim_out.now ∷ g.D.Sink.seen c.args.certificate_out.now ∷ g.K.Sink.seen c.args.report.now ∷ [])
    (g.C.Sink.seen c.write_outcome.new.made ∷ g.D.Sink.seen c.write_outcome.new.shown ∷ g.K.Sink.seen c.write_outcome.new.report ∷ [])
    (c.solve_texts-outcome.ensures.solves a b first second) c.write_outcome.ensures.ends
