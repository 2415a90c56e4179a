use Rattle.std.proofs.Common.{ℕ, ◌∙◌, List, [], ◌∷◌, ap, refl}
use Rattle.dimacs_runs.specs.{Commands.{Contents}, Files.{Read, ReadFile}, inside.Making.{made_for}}
use Rattle.dimacs_runs.specs.inside.Outcomes.{IfEnds, shown_texts}
use Rattle.dimacs_runs.proofs.{FileLemmas.{sees_two, two_first}, MakingLemmas.{answers_files, answers_nothing}}
use Rattle.dimacs_runs.proofs.PlanLemmas.{each_text, sees_nothing}
use Rattle.dimacs_runs.proofs.runs_that_make.answer_claim.Goals as goal

pub returns-in_err-instance : goal.returns-in_err-instance
returns-in_err-instance g c =
    record { answers = answers_nothing [] (c.args.claim.now ∷ []) refl c.from_residual.ensures.1 (sees_nothing _) c.in_err-instance.ensures.failed }

pub returns-in_err-claim : goal.returns-in_err-claim
returns-in_err-claim g c =
    record { answers = answers_nothing (c.args.instance.now ∷ []) [] refl c.from_residual-in_err-claim.ensures.1 c.in_ok-instance.ensures.opened c.in_err-claim.ensures.failed }

pub returns : goal.returns
returns g c =
    let instance : ReadFile = record { name = c.in_ok-instance.instance.name.now; faults = g.F.Input.Source.faults c.make-answer.new.instance } in
    let claim : ReadFile = record { name = c.in_ok-claim.claim.name.now; faults = g.F.Input.Source.faults c.make-answer.new.claim } in
    record {
      answers = answers_files (instance ∷ claim ∷ []) _ c.or-failure.result
          (rw (c.in_ok-instance.ensures.named, c.in_ok-claim.ensures.named) refl)
          (sees_two c.in_ok-instance.ensures.opened c.in_ok-claim.ensures.opened)
          (sees_two c.close_read.ensures.seen c.close_read-2.ensures.seen) c.name_failure.ensures
          (rw c.or-failure.ensures (two_first c.close_read.result c.close_read-2.result (Read instance) (Read claim) c.close_read.ensures.failure c.close_read-2.ensures.failure))
          (rw (c.in_ok-instance.ensures.faultless, c.in_ok-claim.ensures.faultless) at c.make-answer.ensures.faults)
          (each_text (_ ∷ _ ∷ []) (λ (texts : List (List ℕ)). IfEnds shown_texts (made_for c.args.job texts) _) (λ a first b second.
          (c.make-answer.ensures.possible a b
          (c.in_ok-instance.ensures.coming ∙ first)
          (c.in_ok-claim.ensures.coming ∙ ap (λ (h : Contents). h c.args.claim.now) c.in_ok-instance.ensures.holds ∙ second))));
    }
