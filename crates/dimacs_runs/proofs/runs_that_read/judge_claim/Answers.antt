use Rattle.std.proofs.Common.{ℕ, ◌∙◌, List, [], ◌∷◌, ap, inl, inr, refl}
use Rattle.dimacs_runs.specs.{Commands.{Contents, ReportsJudged}, Files.{Read, ReadFile}, Judged.{Judged}}
use Rattle.dimacs_runs.specs.inside.Commands.{named}
use Rattle.dimacs_runs.proofs.FileLemmas.{sees_three, sees_two, three_first}
use Rattle.dimacs_runs.proofs.PlanLemmas.{each_text, is_claim, judged_reports, no_outcome, reports_named, sees_nothing, stops_opening, uses_files}
use Rattle.dimacs_runs.proofs.WritingLemmas.{counts_reported, report_written, unreported}
use Rattle.dimacs_runs.proofs.runs_that_read.judge_claim.Goals as goal

pub returns-in_err-instance : goal.returns-in_err-instance
returns-in_err-instance g c =
    record { runs = stops_opening [] (c.args.claim.now ∷ c.args.certificate.now ∷ []) refl c.from_residual.ensures.1 (sees_nothing _) c.in_err-instance.ensures.failed }

pub returns-in_err-claim : goal.returns-in_err-claim
returns-in_err-claim g c =
    record { runs = stops_opening (c.args.instance.now ∷ []) (c.args.certificate.now ∷ []) refl c.from_residual-in_err-claim.ensures.1 c.in_ok-instance.ensures.opened c.in_err-claim.ensures.failed }

pub returns-in_err-certificate : goal.returns-in_err-certificate
returns-in_err-certificate g c =
    let two = sees_two c.in_ok-instance.ensures.opened c.in_ok-claim.ensures.opened in
    record { runs = stops_opening (c.args.instance.now ∷ c.args.claim.now ∷ []) [] refl c.from_residual-in_err-certificate.ensures.1 two c.in_err-certificate.ensures.failed }

pub returns : goal.returns
returns g c =
    let outcome = c.judge_texts-outcome.result in
    let ended = c.write_outcome-ended.result in
    let old = g.K.Sink.seen c.args.output.now in
    let new = g.K.Sink.seen c.write_outcome-ended.new.report in
    let instance : ReadFile = record { name = c.in_ok-instance.instance.name.now; faults = g.F.Input.Source.faults c.judge_texts-outcome.new.instance } in
    let claim : ReadFile = record { name = c.in_ok-claim.claim.name.now; faults = g.F.Input.Source.faults c.judge_texts-outcome.new.claim } in
    let certificate : ReadFile = record { name = c.in_ok-certificate.certificate.name.now; faults = g.F.Input.Source.faults c.judge_texts-outcome.new.certificate } in
    let read : List ReadFile = instance ∷ claim ∷ certificate ∷ [] in
    let opened = sees_three c.in_ok-instance.ensures.opened c.in_ok-claim.ensures.opened c.in_ok-certificate.ensures.opened in
    let closed = sees_three c.close_read.ensures.seen c.close_read-2.ensures.seen c.close_read-3.ensures.seen in
    let counts = rw (c.in_ok-instance.ensures.faultless, c.in_ok-claim.ensures.faultless, c.in_ok-certificate.ensures.faultless) at c.judge_texts-outcome.ensures.faults in
    let ends = c.write_outcome-ended.ensures.ends in
    record {
      runs = uses_files read [] ended _
          (rw (c.in_ok-instance.ensures.named, c.in_ok-claim.ensures.named, c.in_ok-certificate.ensures.named) refl) refl opened closed c.name_failure.ensures
          (rw (c.or-failure.ensures, c.or.ensures) (three_first c.close_read.result c.close_read-2.result c.close_read-3.result (Read instance) (Read claim) (Read certificate) c.close_read.ensures.failure c.close_read-2.ensures.failure c.close_read-3.ensures.failure))
          (counts_reported outcome ended (0 ∷ 0 ∷ 0 ∷ []) (instance.faults ∷ claim.faults ∷ certificate.faults ∷ []) old new refl counts ends)
          (each_text (_ ∷ _ ∷ _ ∷ []) (λ (texts : List (List ℕ)). ReportsJudged c.args.kind texts (named ended _) (old.accepted ∷ []) (new.accepted ∷ [])) (λ a first b second d third.
          judged_reports c.args.kind a b d (named ended _) old.accepted new.accepted (reports_named (Judged c.args.kind a b d) ended _ old.accepted new.accepted (report_written (Judged c.args.kind a b d) outcome ended old new (c.judge_texts-outcome.ensures.reports a b d
          (c.in_ok-instance.ensures.coming ∙ first)
          (is_claim c.args.kind _ b (c.in_ok-claim.ensures.coming ∙ ap (λ (h : Contents). h c.args.claim.now) c.in_ok-instance.ensures.holds ∙ second))
          (c.in_ok-certificate.ensures.coming ∙ ap (λ (h : Contents). h c.args.certificate.now) (c.in_ok-claim.ensures.holds ∙ c.in_ok-instance.ensures.holds) ∙ third)) ends))))
          (λ memory. unreported outcome ended old new ends (inl memory))
          (λ unread. unreported outcome ended old new ends (inr (no_outcome outcome read counts unread)));
    }
