use Rattle.std.proofs.Common.{[], ◌∷◌}
use Rattle.dimacs_runs.specs.{Certified.{Certified}, Outputs.{WritesAlike}}
use Rattle.dimacs_runs.proofs.WritingLemmas.{shown_written}
use Rattle.dimacs_runs.proofs.certify.run_certify.Goals as goal

pub returns-clause-reports : goal.returns-clause-reports
returns-clause-reports g c = λ a b first second.
    shown_written (WritesAlike (Certified c.args.kind a b)) c.certify_claim-outcome.result c.write_outcome.result
    (g.C.Sink.seen c.args.certificate_out.now ∷ g.K.Sink.seen c.args.report.now ∷ [])
    (g.C.Sink.seen c.write_outcome.new.shown ∷ g.K.Sink.seen c.write_outcome.new.report ∷ [])
    (c.certify_claim-outcome.ensures.certifies a b first second) c.write_outcome.ensures.ends
