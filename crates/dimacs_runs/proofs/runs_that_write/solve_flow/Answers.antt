use Rattle.std.proofs.Common.{ℕ, ◌∙◌, List, [], ◌∷◌, ap, inl, inr, refl}
use Rattle.dimacs_lines.specs.Devices.{Written}
use Rattle.dimacs_runs.specs.{Commands.{WritesSolved}, Files.{Read, ReadFile, WrittenFile, Wrote}, Outputs.{MayWrite}}
use Rattle.dimacs_runs.specs.{Solved.{Solved}, inside.Commands.{named}, inside.Outcomes.{accepted_by}}
use Rattle.dimacs_runs.proofs.FileLemmas.{sees_three, sees_two, three_first}
use Rattle.dimacs_runs.proofs.PlanLemmas.{each_text, flow_asks_nothing, flow_writes, no_outcome, reports_all_named, sees_nothing, stops_creating, stops_opening, uses_files}
use Rattle.dimacs_runs.proofs.WritingLemmas.{all_written, counts_both, counts_without, unwritten}
use Rattle.dimacs_runs.proofs.runs_that_write.solve_flow.Goals as goal

pub returns-in_err-instance : goal.returns-in_err-instance
returns-in_err-instance g c =
    record { runs = stops_opening [] [] refl c.from_residual.ensures.1 (sees_nothing _) c.in_err-instance.ensures.failed }

pub returns-in_err-claim : goal.returns-in_err-claim
returns-in_err-claim g c =
    record { runs = stops_creating [] (c.args.certificate.now ∷ []) refl c.from_residual-in_err-claim.ensures.1 c.in_ok-instance.ensures.opened c.in_err-claim.ensures.failed (sees_nothing _) }

-- the certificate could not be created
pub returns-in-Err : goal.returns-in-Err
returns-in-Err g c =
    let opened = sees_two c.in_ok-instance.ensures.opened c.in_ok-claim.ensures.created in
    let closed = rw (c.in_ok-claim.ensures.named, c.in_ok-claim.ensures.empty) at c.close_written.ensures.seen in
    record { runs = stops_creating (c.args.claim.now ∷ []) [] refl refl opened c.in-Err.ensures.failed closed }

pub returns : goal.returns
returns g c =
    let outcome = c.solve_texts-outcome.result in
    let ended = c.write_outcome-ended.result in
    let old = g.K.Sink.seen c.args.output.now in
    let new = g.K.Sink.seen c.write_outcome-ended.new.report in
    let claimed = g.F.Output.Sink.seen c.write_outcome-ended.new.made in
    let certified = g.F.Output.Sink.seen c.write_outcome-ended.new.shown in
    let instance : ReadFile = record { name = c.in_ok-instance.instance.name.now; faults = g.F.Input.Source.faults c.solve_texts-outcome.new.instance } in
    let claim : WrittenFile = record { name = c.in_ok-claim.claim.name.now; seen = claimed } in
    let certificate : WrittenFile = record { name = c.in-Ok.certificate.name.now; seen = certified } in
    let opened = sees_three c.in_ok-instance.ensures.opened c.in_ok-claim.ensures.created c.in-Ok.ensures.created in
    let closed = sees_three c.close_read.ensures.seen c.close_written-2.ensures.seen c.close_written-3.ensures.seen in
    let counts = counts_without outcome (0 ∷ []) (instance.faults ∷ []) [] [] refl (rw c.in_ok-instance.ensures.faultless at c.solve_texts-outcome.ensures.faults) in
    let fresh : Written = record { accepted = g.F.Files.empty; faults = 0 } in
    let before : List Written = fresh ∷ fresh ∷ old ∷ [] in
    let after : List Written = claimed ∷ certified ∷ new ∷ [] in
    let ends = rw (c.in_ok-claim.ensures.empty, c.in-Ok.ensures.empty) at c.write_outcome-ended.ensures.ends in
    record {
      runs = uses_files (instance ∷ []) (claim ∷ certificate ∷ []) ended _
          (rw c.in_ok-instance.ensures.named refl) (rw (c.in_ok-claim.ensures.named, c.in-Ok.ensures.named) refl) opened closed c.name_failure.ensures
          (rw (c.or-failure.ensures, c.or.ensures) (three_first c.close_read.result c.close_written-2.result c.close_written-3.result (Read instance) (Wrote claim) (Wrote certificate) c.close_read.ensures.failure c.close_written-2.ensures.failure c.close_written-3.ensures.failure))
          (counts_both outcome ended (0 ∷ []) (instance.faults ∷ []) before after counts ends)
          (each_text (_ ∷ []) (λ (texts : List (List ℕ)). WritesSolved c.args.job texts (named ended _) (accepted_by before) (accepted_by after)) (λ a first.
          flow_writes c.args.job a [] (named ended _) (accepted_by before) (accepted_by after) c.requires
          (reports_all_named (MayWrite (Solved c.args.job a [])) ended _ (accepted_by before) (accepted_by after)
          (all_written (MayWrite (Solved c.args.job a [])) outcome ended before after (c.solve_texts-outcome.ensures.solves a [] (c.in_ok-instance.ensures.coming ∙ first) (flow_asks_nothing c.args.job _ [] c.requires)) ends))))
          (λ memory. ap accepted_by (unwritten outcome ended before after ends (inl memory)))
          (λ unread. ap accepted_by (unwritten outcome ended before after ends (inr (no_outcome outcome (instance ∷ []) counts unread))));
    }
