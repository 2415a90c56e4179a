-- Sets that pass their tests, and the first test that fails.
use Rattle.std.proofs.Common.{◌≡◌, Result}
use Rattle.std.specs.Prelude.{IsErrAnd}
use Rattle.dimacs_claims.specs.Cuts.{CutValue}
use Rattle.dimacs_instance.specs.MinFlows.{MinValue}
use Rattle.dimacs_judging.specs.{declared.verdict.JudgeError.{JudgeError}, declared.verdict.Verdict.{Verdict}}
use Rattle.dimacs_judging.specs.{declared.verdict.Verdict.TheVariants.{Infeasible}, Cuts.{members}}
use Rattle.dimacs_judging.specs.InfeasibleJudge.{PassesInfeasible, ShowsNoFlow, infeasible_rows}
use Rattle.dimacs_judging.specs.Tests.{AllClear, First, Judges, Refuses}
use Rattle.dimacs_judging.proofs.{Firsts.{AllOneWay, one_test_one_way}, Settling.{error_judges}}
use Rattle.dimacs_judging.proofs.Passing.{nodes_are, nodes_clear, set_violated, violated_clear}
use Rattle.dimacs_records.specs.declared.reasons.Reason.TheVariants as reasons
use Rattle.dimacs_judging.specs.declared.verdict.Where.TheVariants as places

module _ (i : MinValue) (c : CutValue) where
  infeasible_one_way : AllOneWay (infeasible_rows i c)
  infeasible_one_way = (one_test_one_way places.Certificate reasons.NodesDiffer _, (one_test_one_way places.Certificate reasons.NotViolated _, tt))

  pub infeasible_passes : AllClear (infeasible_rows i c) → PassesInfeasible i c
  infeasible_passes clear = record { nodes_are = nodes_are i.nodes c.nodes clear.0; violated = set_violated i (members c) clear.1.0 }

  pub infeasible_clear : PassesInfeasible i c → AllClear (infeasible_rows i c)
  infeasible_clear passes = (nodes_clear i.nodes c.nodes passes.nodes_are, (violated_clear i (members c) passes.violated, tt))

  -- the first test that fails is the judge's error
  pub infeasible_judged : (error : JudgeError) → Refuses (First (infeasible_rows i c)) error → (result : Result Verdict JudgeError) → IsErrAnd result (λ e. e ≡ error)
      → Judges (infeasible_rows i c) (ShowsNoFlow i c) (λ verdict. verdict ≡ Infeasible) result
  infeasible_judged error first result is = error_judges (infeasible_rows i c) (ShowsNoFlow i c) _ infeasible_one_way (λ shown. infeasible_clear shown.0) error first result is
