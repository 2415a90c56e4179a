use Rattle.std.proofs.Common.{[], ◌∷◌}
use Rattle.dimacs_runs.specs.{Outputs.{WritesAlike}, Spread.{Spreads}}
use Rattle.dimacs_runs.proofs.WritingLemmas.{shown_written}
use Rattle.dimacs_runs.proofs.spread.run_spread.Goals as goal

pub returns-clause-reports : goal.returns-clause-reports
returns-clause-reports g c = λ a b first second.
    shown_written (WritesAlike (Spreads c.args.kind a b)) c.spread_claim-outcome.result c.write_outcome.result
    (g.C.Sink.seen c.args.solution_out.now ∷ g.K.Sink.seen c.args.report.now ∷ [])
    (g.C.Sink.seen c.write_outcome.new.shown ∷ g.K.Sink.seen c.write_outcome.new.report ∷ [])
    (c.spread_claim-outcome.ensures.spreads a b first second) c.write_outcome.ensures.ends
