use Rattle.std.proofs.Common.{ℕ, ◌∙◌, List, [], ◌∷◌, refl}
use Rattle.dimacs_runs.specs.{Commands.{MakesCertificate}, Files.{Read, ReadFile}}
use Rattle.dimacs_runs.specs.inside.Outcomes.{IfEnds, outcome_of, shown_texts}
use Rattle.dimacs_runs.proofs.{FileLemmas.{one_first}, MakingLemmas.{answers_files, answers_nothing}}
use Rattle.dimacs_runs.proofs.PlanLemmas.{each_text, sees_nothing}
use Rattle.dimacs_jobs.specs.declared.jobs.JudgeKind.TheVariants as judges
use Rattle.dimacs_runs.proofs.runs_that_make.answer_instance.Goals as goal

pub returns-in_err-instance : goal.returns-in_err-instance
returns-in_err-instance g c =
    record { answers = answers_nothing [] [] refl c.from_residual.ensures.1 (sees_nothing _) c.in_err-instance.ensures.failed }

pub returns : goal.returns
returns g c =
    let answer = outcome_of c.certify_infeasible.result in
    let instance : ReadFile = record { name = c.in_ok-instance.instance.name.now; faults = g.F.Input.Source.faults c.certify_infeasible.new.instance } in
    record {
      answers = answers_files (instance ∷ []) answer c.close_read-failure.result
          (rw c.in_ok-instance.ensures.named refl)
          c.in_ok-instance.ensures.opened c.close_read-failure.ensures.seen (rw c.outcome_of-answer.ensures at c.name_failure.ensures)
          (one_first c.close_read-failure.result (Read instance) c.close_read-failure.ensures.failure)
          (rw c.in_ok-instance.ensures.faultless at c.certify_infeasible.ensures.faults)
          (each_text (_ ∷ []) (λ (texts : List (List ℕ)). IfEnds shown_texts (MakesCertificate judges.Infeasible texts) answer) (λ a first. c.certify_infeasible.ensures.certifies a (c.in_ok-instance.ensures.coming ∙ first)));
    }
