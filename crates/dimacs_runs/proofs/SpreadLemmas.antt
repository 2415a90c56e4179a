-- The outcomes of dealing out a claimed flow.
use Rattle.std.proofs.Common.{◌≡◌, ◌∙◌, ℕ, List, Result, Ok, Err, refl, ap}
use Rattle.std.specs.Prelude.{ℤ, IfErr, IfOk}
use Rattle.dimacs_claims.specs.SolutionTexts.{SolutionValue}
use Rattle.dimacs_records.specs.declared.reasons.Reason.{Reason}
use Rattle.dimacs_judging.specs.{declared.verdict.JudgeError.{JudgeError}, declared.verdict.Where.{Where}}
use Rattle.dimacs_judging.specs.Tests.{AllClear, FirstAlone, Refuses}
use Rattle.dimacs_judging.proofs.Firsts.{none_first}
use Rattle.dimacs_network.specs.declared.network.ArcView.{ArcView}
use Rattle.dimacs_solve.specs.Spread.{Deals, NoneCheaper, spread_rows}
use Rattle.dimacs_jobs.specs.{declared.jobs.SpreadKind.TheVariants.{Max, Min}, declared.jobs.SpreadKind.{SpreadKind}}
use Rattle.dimacs_jobs.specs.declared.status.Status.{Status}
use Rattle.dimacs_jobs.specs.declared.status.Status.TheVariants.{Done, Refused, GaveUp}
use Rattle.dimacs_runs.specs.{Certified.{uncertified}, Spread.{SpreadsClaim}, Verdicts.{failure_line}}
use Rattle.dimacs_runs.specs.Outputs.{WritesAlike, report_of}
use Rattle.dimacs_runs.specs.inside.Outcomes.{DealsOut, MayCertify, judge_end, outcome_of}
use Rattle.dimacs_judging.specs.declared.verdict.JudgeError.TheVariants as judge_errors

module _ (arcs : List ArcView) (s : SolutionValue) where
  abbrev Tested : Result (List ℤ) JudgeError → Type 0
  Tested flow = IfOk flow (λ (x : List ℤ). AllClear (spread_rows arcs s.entries)) × IfErr flow (Refuses (FirstAlone (spread_rows arcs s.entries)))

  pub max_deals : (flow : Result (List ℤ) JudgeError) → IfOk flow (λ (x : List ℤ). Deals arcs s.entries x) → Tested flow → DealsOut Max arcs s flow
  max_deals (Ok x) deals tested = (tested.0, deals, tt)
  max_deals (Err error) deals tested = tested.1

  pub min_deals : (flow : Result (List ℤ) JudgeError) → IfOk flow (λ (x : List ℤ). Deals arcs s.entries x) → IfOk flow (λ (x : List ℤ). NoneCheaper arcs s.entries x) → Tested flow → DealsOut Min arcs s flow
  min_deals (Ok x) deals least tested = (tested.0, deals, least)
  min_deals (Err error) deals least tested = tested.1

  -- a solution and a refusal aren't both possible, and no two refusals are
  pub solution_alike : (kind : SpreadKind) (out : List (List ℕ)) → SpreadsClaim kind arcs s Done out → WritesAlike (SpreadsClaim kind arcs s) Done out
  solution_alike kind out written = (written, alike)
    where
      alike : (status : Status) (other : List (List ℕ)) → SpreadsClaim kind arcs s status other → (status ≡ Done) × (report_of other ≡ report_of out)
      alike Done other also = (refl, rw (also.1.5, written.1.5) refl)
      alike Refused other also = absurd (none_first (spread_rows arcs s.entries) also.0 also.1 written.0 also.2)
      alike GaveUp other also = absurd also

  refusal_alike : (kind : SpreadKind) (place : Where) (reason : Reason) → FirstAlone (spread_rows arcs s.entries) place reason → WritesAlike (SpreadsClaim kind arcs s) Refused (uncertified (failure_line place reason))
  refusal_alike kind place reason first = ((place, reason, first.0, refl), alike)
    where
      alike : (status : Status) (other : List (List ℕ)) → SpreadsClaim kind arcs s status other → (status ≡ Refused) × (report_of other ≡ failure_line place reason)
      alike Done other also = absurd (none_first (spread_rows arcs s.entries) place reason also.0 first.0)
      alike Refused other also = let same = first.1 also.0 also.1 also.2 in (refl, ap report_of also.3 ∙ rw (same.0, same.1) refl)
      alike GaveUp other also = absurd also

  -- an entry or an amount was refused, or memory ran out
  pub refusal_spreads : (kind : SpreadKind) (error : JudgeError) → Refuses (FirstAlone (spread_rows arcs s.entries)) error → MayCertify (SpreadsClaim kind arcs s) (outcome_of (Err (judge_end error)))
  refusal_spreads kind (judge_errors.Refused place reason) first = refusal_alike kind place reason first
  refusal_spreads kind judge_errors.Memory first = tt
