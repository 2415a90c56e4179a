use Rattle.std.proofs.Common.{ℕ, ◌∙◌, List, [], ◌∷◌, ap, inl, inr, refl}
use Rattle.dimacs_runs.specs.{Commands.{Contents, ReportsJudged}, Files.{Read, ReadFile}, Judged.{Judged}}
use Rattle.dimacs_runs.specs.inside.Commands.{named}
use Rattle.dimacs_runs.proofs.FileLemmas.{sees_two, two_first}
use Rattle.dimacs_runs.proofs.PlanLemmas.{each_text, no_outcome, reports_named, sees_nothing, stops_opening, uses_files}
use Rattle.dimacs_runs.proofs.WritingLemmas.{counts_reported, counts_without, report_written, unreported}
use Rattle.dimacs_jobs.specs.declared.jobs.JudgeKind.TheVariants as judges
use Rattle.dimacs_runs.proofs.runs_that_read.judge_set.Goals as goal

pub returns-in_err-instance : goal.returns-in_err-instance
returns-in_err-instance g c =
    record { runs = stops_opening [] (c.args.set.now ∷ []) refl c.from_residual.ensures.1 (sees_nothing _) c.in_err-instance.ensures.failed }

pub returns-in_err-set : goal.returns-in_err-set
returns-in_err-set g c =
    record { runs = stops_opening (c.args.instance.now ∷ []) [] refl c.from_residual-in_err-set.ensures.1 c.in_ok-instance.ensures.opened c.in_err-set.ensures.failed }

pub returns : goal.returns
returns g c =
    let outcome = c.judge_texts-outcome.result in
    let ended = c.write_outcome-ended.result in
    let old = g.K.Sink.seen c.args.output.now in
    let new = g.K.Sink.seen c.write_outcome-ended.new.report in
    let instance : ReadFile = record { name = c.in_ok-instance.instance.name.now; faults = g.F.Input.Source.faults c.judge_texts-outcome.new.instance } in
    let set : ReadFile = record { name = c.in_ok-set.set.name.now; faults = g.F.Input.Source.faults c.judge_texts-outcome.new.certificate } in
    let read : List ReadFile = instance ∷ set ∷ [] in
    let counts = counts_without outcome (0 ∷ []) (instance.faults ∷ []) (0 ∷ []) (set.faults ∷ []) refl (rw (c.in_ok-instance.ensures.faultless, c.in_ok-set.ensures.faultless) at c.judge_texts-outcome.ensures.faults) in
    let ends = c.write_outcome-ended.ensures.ends in
    record {
      runs = uses_files read [] ended _
          (rw (c.in_ok-instance.ensures.named, c.in_ok-set.ensures.named) refl) refl
          (sees_two c.in_ok-instance.ensures.opened c.in_ok-set.ensures.opened)
          (sees_two c.close_read.ensures.seen c.close_read-2.ensures.seen) c.name_failure.ensures
          (rw c.or-failure.ensures (two_first c.close_read.result c.close_read-2.result (Read instance) (Read set) c.close_read.ensures.failure c.close_read-2.ensures.failure))
          (counts_reported outcome ended (0 ∷ 0 ∷ []) (instance.faults ∷ set.faults ∷ []) old new refl counts ends)
          (each_text (_ ∷ _ ∷ []) (λ (texts : List (List ℕ)). ReportsJudged judges.Infeasible texts (named ended _) (old.accepted ∷ []) (new.accepted ∷ [])) (λ a first d second.
          reports_named (Judged judges.Infeasible a [] d) ended _ old.accepted new.accepted (report_written (Judged judges.Infeasible a [] d) outcome ended old new (c.judge_texts-outcome.ensures.reports a [] d
          (c.in_ok-instance.ensures.coming ∙ first) (λ none. absurd cc)
          (c.in_ok-set.ensures.coming ∙ ap (λ (h : Contents). h c.args.set.now) c.in_ok-instance.ensures.holds ∙ second)) ends)))
          (λ memory. unreported outcome ended old new ends (inl memory))
          (λ unread. unreported outcome ended old new ends (inr (no_outcome outcome read counts unread)));
    }
