-- Flows that pass their tests, and the first test that fails.
use Rattle.std.proofs.Common.{◌≡◌, ◌++◌, ℕ, Bool, List, [], ◌∷◌, Result, ℤ, length}
use Rattle.std.specs.Prelude.{IsErrAnd}
use Rattle.dimacs_instance.specs.{MaxFlows.{MaxValue, IsMax}, MinFlows.{MinValue, IsMin}}
use Rattle.dimacs_records.specs.declared.reasons.Reason.{Reason}
use Rattle.dimacs_judging.specs.{declared.verdict.JudgeError.{JudgeError}, declared.verdict.Verdict.{Verdict}}
use Rattle.dimacs_judging.specs.{declared.verdict.JudgeError.TheVariants.{Refused}, declared.verdict.Where.{Where}}
use Rattle.dimacs_judging.specs.{declared.verdict.Verdict.TheVariants.{Max, Min}, Cuts.{CutTight}, Feasible.{value}}
use Rattle.dimacs_judging.specs.{CertificateTests.{cut_rows, slack_row}, Flows.{cost}, Potentials.{Slack}}
use Rattle.dimacs_judging.specs.FlowJudges.{PassesMaxFlow, PassesMinFlow, ShowsMaxFlow, ShowsMinFlow, max_flow_rows, min_flow_rows}
use Rattle.dimacs_judging.specs.FlowTests.{feasible_max_rows, feasible_min_rows, cost_row, max_demand, min_demand}
use Rattle.dimacs_judging.specs.Tests.{Row, AllClear, First, Judges, Refuses}
use Rattle.dimacs_judging.proofs.{Duality.{tight_is_maximum, slack_is_least}, Firsts.{AllOneWay}}
use Rattle.dimacs_judging.proofs.Passing.{costs_clear, costs_wide, feasible_max_clear, feasible_max_holds, feasible_min_clear, feasible_min_holds, slack_clear, tight_cut_clear}
use Rattle.dimacs_judging.proofs.Reasons.{bound_one_way, balance_one_way, cost_one_way, cut_one_way, slack_one_way}
use Rattle.dimacs_judging.proofs.{RowLists.{all_clear-append, first_after}, Settling.{error_judges, refused_in_front}}

-- ---- a flow and a cut
module _ (i : MaxValue) (law : IsMax i) (x : List ℤ) (set : ℕ → Bool) where
  max_one_way : AllOneWay (max_flow_rows i x set)
  max_one_way = (bound_one_way i.arcs x, (balance_one_way i.nodes i.arcs (max_demand i) x, cut_one_way i set x))

  max_clear : PassesMaxFlow i x set → AllClear (max_flow_rows i x set)
  max_clear passes = all_clear-append (feasible_max_rows i x) (cut_rows i set x) (feasible_max_clear i x law passes.feasible) (tight_cut_clear i set x passes.tight)

  pub max_shown : PassesMaxFlow i x set → AllClear (max_flow_rows i x set) × ShowsMaxFlow i x set
  max_shown passes = (max_clear passes, (passes, tight_is_maximum i law.joined law.source_within x set passes.feasible passes.tight))

  max_judged : (error : JudgeError) → Refuses (First (max_flow_rows i x set)) error → (result : Result Verdict JudgeError) → IsErrAnd result (λ e. e ≡ error)
      → Judges (max_flow_rows i x set) (ShowsMaxFlow i x set) (λ verdict. verdict ≡ Max (value i x)) result
  max_judged error first result is = error_judges (max_flow_rows i x set) (ShowsMaxFlow i x set) _ max_one_way (λ shown. max_clear shown.0) error first result is

  -- the first test that fails is the judge's error
  pub max_infeasible : (error : JudgeError) → Refuses (First (feasible_max_rows i x)) error → (result : Result Verdict JudgeError) → IsErrAnd result (λ e. e ≡ error)
      → Judges (max_flow_rows i x set) (ShowsMaxFlow i x set) (λ verdict. verdict ≡ Max (value i x)) result
  max_infeasible error outcome = max_judged error (refused_in_front (feasible_max_rows i x) (cut_rows i set x) error outcome)

  -- after the tests of the flow have passed
  module _ (long : length x ≡ length i.arcs) (flow_clear : AllClear (feasible_max_rows i x)) where
    pub max_untight : (place : Where) (reason : Reason) → First (cut_rows i set x) place reason → (result : Result Verdict JudgeError) → IsErrAnd result (λ e. e ≡ Refused place reason)
        → Judges (max_flow_rows i x set) (ShowsMaxFlow i x set) (λ verdict. verdict ≡ Max (value i x)) result
    max_untight place reason first =
        max_judged (Refused place reason) (first_after (feasible_max_rows i x) (cut_rows i set x) place reason flow_clear first)

    -- all tests pass
    pub max_passed : CutTight i x set → AllClear (max_flow_rows i x set) × ShowsMaxFlow i x set
    max_passed tight = max_shown (record { feasible = feasible_max_holds i x law long flow_clear; tight = tight })

-- ---- a flow and potentials
module _ (i : MinValue) (x : List ℤ) (p : ℕ → ℤ) where
  abbrev flow_tests : List Row
  flow_tests = feasible_min_rows i x ++ cost_row i.arcs x ∷ []

  min_one_way : AllOneWay (min_flow_rows i x p)
  min_one_way = (bound_one_way i.arcs x, (balance_one_way i.nodes i.arcs (min_demand i) x, (cost_one_way i.arcs x, (slack_one_way i.arcs p x, tt))))

  min_clear : PassesMinFlow i x p → AllClear (min_flow_rows i x p)
  min_clear passes =
      let feasible = feasible_min_clear i x passes.feasible in
      all_clear-append flow_tests (slack_row i.arcs p x ∷ []) (feasible.0, (feasible.1.0, (costs_clear i.arcs x passes.costs_wide, tt))) (slack_clear i.arcs p x passes.slack, tt)

  pub min_shown : IsMin i → PassesMinFlow i x p → AllClear (min_flow_rows i x p) × ShowsMinFlow i x p
  min_shown law passes = (min_clear passes, (passes, slack_is_least i law.joined x p passes.feasible passes.slack))

  min_judged : (error : JudgeError) → Refuses (First (min_flow_rows i x p)) error → (result : Result Verdict JudgeError) → IsErrAnd result (λ e. e ≡ error)
      → Judges (min_flow_rows i x p) (ShowsMinFlow i x p) (λ verdict. verdict ≡ Min (cost i.arcs x)) result
  min_judged error first result is = error_judges (min_flow_rows i x p) (ShowsMinFlow i x p) _ min_one_way (λ shown. min_clear shown.0) error first result is

  -- the first test that fails is the judge's error
  pub min_infeasible : (error : JudgeError) → Refuses (First flow_tests) error → (result : Result Verdict JudgeError) → IsErrAnd result (λ e. e ≡ error)
      → Judges (min_flow_rows i x p) (ShowsMinFlow i x p) (λ verdict. verdict ≡ Min (cost i.arcs x)) result
  min_infeasible error outcome = min_judged error (refused_in_front flow_tests (slack_row i.arcs p x ∷ []) error outcome)

  -- after the tests of the flow have passed
  module _ (long : length x ≡ length i.arcs) (clear : AllClear flow_tests) where
    pub min_unslack : (place : Where) (reason : Reason) → First (slack_row i.arcs p x ∷ []) place reason → (result : Result Verdict JudgeError) → IsErrAnd result (λ e. e ≡ Refused place reason)
        → Judges (min_flow_rows i x p) (ShowsMinFlow i x p) (λ verdict. verdict ≡ Min (cost i.arcs x)) result
    min_unslack place reason first = min_judged (Refused place reason) (first_after flow_tests (slack_row i.arcs p x ∷ []) place reason clear first)

    -- all tests pass
    pub min_passed : IsMin i → Slack i.arcs x p → AllClear (min_flow_rows i x p) × ShowsMinFlow i x p
    min_passed law slack = min_shown law (record { feasible = feasible_min_holds i x long (clear.0, (clear.1.0, tt)); costs_wide = costs_wide i.arcs x clear.1.1.0; slack = slack })
