use Rattle.std.proofs.Common.{[], ◌∷◌, refl}
use Rattle.dimacs_runs.proofs.MakingLemmas.{writes_no_text, writes_nowhere, writes_text}
use Rattle.dimacs_runs.proofs.outcome_file.write_into.Goals as goal

-- there is no text
pub returns-then-is_nothing : goal.returns-then-is_nothing
returns-then-is_nothing g c = record { writes = writes_no_text c.args.outcome (c.args.name.now ∷ []) (c.if-is_nothing.ensures.0 refl) c.write_report.ensures.writes }

-- the file could not be created
pub returns-in_err-file : goal.returns-in_err-file
returns-in_err-file g c = record { writes = writes_nowhere c.args.outcome (λ is. let never = c.if-is_nothing.ensures.1 is in absurd cc) c.from_residual.ensures.1 c.in_err-file.ensures.failed }

pub returns : goal.returns
returns g c =
    record {
      writes = writes_text c.args.outcome (g.F.Output.Sink.seen c.write_outcome-ended.new.shown) c.write_outcome-ended.result c.close_written-failure.result (λ is. let never = c.if-is_nothing.ensures.1 is in absurd cc)
          c.in_ok-file.ensures.created (rw c.in_ok-file.ensures.named at c.close_written-failure.ensures.seen) c.name_failure.ensures
          (rw c.in_ok-file.ensures.named at c.close_written-failure.ensures.failure) (rw c.in_ok-file.ensures.empty at c.write_outcome-ended.ensures.ends);
    }
