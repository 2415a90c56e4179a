use Rattle.std.proofs.Common.{ℕ, ◌∙◌, List, [], ◌∷◌, ap, drop, inl, inr, refl}
use Rattle.dimacs_lines.specs.Devices.{Written}
use Rattle.dimacs_runs.specs.{Commands.{Contents, WritesSolved}, Files.{Read, ReadFile, WrittenFile, Wrote}}
use Rattle.dimacs_runs.specs.{Outputs.{MayWrite}, Solved.{Solved}, inside.Commands.{named}}
use Rattle.dimacs_runs.specs.inside.Outcomes.{accepted_by, nowhere}
use Rattle.dimacs_runs.proofs.FileLemmas.{sees_three, sees_two, three_first}
use Rattle.dimacs_runs.proofs.PlanLemmas.{each_text, no_outcome, reports_all_named, sees_nothing, stops_creating, stops_opening, uses_files}
use Rattle.dimacs_runs.proofs.WritingLemmas.{all_written, counts_both, counts_without, unwritten}
use Rattle.dimacs_jobs.specs.declared.jobs.SolveJob.TheVariants as solves
use Rattle.dimacs_runs.proofs.runs_that_write.solve_distances.Goals as goal

pub returns-in_err-graph : goal.returns-in_err-graph
returns-in_err-graph g c =
    record { runs = stops_opening [] (c.args.queries.now ∷ []) refl c.from_residual.ensures.1 (sees_nothing _) c.in_err-graph.ensures.failed }

pub returns-in_err-queries : goal.returns-in_err-queries
returns-in_err-queries g c =
    record { runs = stops_opening (c.args.graph.now ∷ []) [] refl c.from_residual-in_err-queries.ensures.1 c.in_ok-graph.ensures.opened c.in_err-queries.ensures.failed }

pub returns-in_err-labels : goal.returns-in_err-labels
returns-in_err-labels g c =
    let opened = sees_two c.in_ok-graph.ensures.opened c.in_ok-queries.ensures.opened in
    record { runs = stops_creating [] [] refl c.from_residual-in_err-labels.ensures.1 opened c.in_err-labels.ensures.failed (sees_nothing _) }

pub returns : goal.returns
returns g c =
    let outcome = c.solve_texts-outcome.result in
    let ended = c.write_outcome-ended.result in
    let old = g.K.Sink.seen c.args.output.now in
    let new = g.K.Sink.seen c.write_outcome-ended.new.report in
    let written = g.F.Output.Sink.seen c.write_outcome-ended.new.shown in
    let graph : ReadFile = record { name = c.in_ok-graph.graph.name.now; faults = g.F.Input.Source.faults c.solve_texts-outcome.new.instance } in
    let queries : ReadFile = record { name = c.in_ok-queries.queries.name.now; faults = g.F.Input.Source.faults c.solve_texts-outcome.new.queries } in
    let labels : WrittenFile = record { name = c.in_ok-labels.labels.name.now; seen = written } in
    let opened = sees_three c.in_ok-graph.ensures.opened c.in_ok-queries.ensures.opened c.in_ok-labels.ensures.created in
    let closed = sees_three c.close_read.ensures.seen c.close_read-2.ensures.seen c.close_written.ensures.seen in
    let counts = rw (c.in_ok-graph.ensures.faultless, c.in_ok-queries.ensures.faultless) at c.solve_texts-outcome.ensures.faults in
    let before : List Written = nowhere ∷ record { accepted = g.F.Files.empty; faults = 0 } ∷ old ∷ [] in
    let after : List Written = nowhere ∷ written ∷ new ∷ [] in
    let ends = rw c.in_ok-labels.ensures.empty at c.write_outcome-ended.ensures.ends in
    record {
      runs = uses_files (graph ∷ queries ∷ []) (labels ∷ []) ended _
          (rw (c.in_ok-graph.ensures.named, c.in_ok-queries.ensures.named) refl) (rw c.in_ok-labels.ensures.named refl) opened closed c.name_failure.ensures
          (rw (c.or-failure.ensures, c.or.ensures) (three_first c.close_read.result c.close_read-2.result c.close_written.result (Read graph) (Read queries) (Wrote labels) c.close_read.ensures.failure c.close_read-2.ensures.failure c.close_written.ensures.failure))
          (counts_without ended (0 ∷ 0 ∷ []) (graph.faults ∷ queries.faults ∷ []) (0 ∷ old.faults ∷ []) (written.faults ∷ new.faults ∷ []) refl (counts_both outcome ended (0 ∷ 0 ∷ []) (graph.faults ∷ queries.faults ∷ []) before after counts ends))
          (each_text (_ ∷ _ ∷ []) (λ (texts : List (List ℕ)). WritesSolved solves.Paths texts (named ended _) (g.F.Files.empty ∷ old.accepted ∷ []) (written.accepted ∷ new.accepted ∷ [])) (λ a first b second.
          reports_all_named (MayWrite (Solved solves.Paths a b)) ended _ (accepted_by before) (accepted_by after) (all_written (MayWrite (Solved solves.Paths a b)) outcome ended before after (c.solve_texts-outcome.ensures.solves a b
          (c.in_ok-graph.ensures.coming ∙ first)
          (c.in_ok-queries.ensures.coming ∙ ap (λ (h : Contents). h c.args.queries.now) c.in_ok-graph.ensures.holds ∙ second)) ends)))
          (λ memory. ap (λ (sinks : List Written). drop 1 (accepted_by sinks)) (unwritten outcome ended before after ends (inl memory)))
          (λ unread. ap (λ (sinks : List Written). drop 1 (accepted_by sinks)) (unwritten outcome ended before after ends (inr (no_outcome outcome (graph ∷ queries ∷ []) counts unread))));
    }
