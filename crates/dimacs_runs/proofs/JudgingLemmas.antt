-- The reports on judged texts.
use Rattle.std.proofs.Common.{◌≡◌, ℕ, List, [], ◌∷◌, Result, Ok, Err, refl, sym, subst, ap, ◌∙◌}
use Rattle.dimacs_records.specs.{declared.faults.ReadError.{ReadError}, declared.reasons.Reason.{Reason}}
use Rattle.dimacs_judging.specs.{declared.verdict.JudgeError.{JudgeError}, declared.verdict.Verdict.{Verdict}}
use Rattle.dimacs_judging.specs.{declared.verdict.Where.{Where}, Answers.{AnswersQueries}, Claims.{claimed_flow}}
use Rattle.dimacs_judging.specs.{MaxJudge.{ShowsMaximum}, MinJudge.{ShowsLeast}, Optimum.{Least, Maximum}}
use Rattle.dimacs_judging.specs.Tests.{Row, Judges}
use Rattle.std.specs.{Prelude.{ℤ}, List.{flat_map}}
use Rattle.dimacs_claims.specs.{Cuts.{CutValue}, Labels.{BlockValue}, Potentials.{PotentialsValue}}
use Rattle.dimacs_claims.specs.{SolutionTexts.{SolutionValue}, SolutionReading.{AnswersAlike}}
use Rattle.dimacs_instance.specs.{MaxFlows.{MaxValue}, MinFlows.{MinValue}, QueryTexts.{QueriesValue}}
use Rattle.dimacs_runs.specs.{Judged.{paths_lines}, Runs.{ReportsAlone}, Judgings.{CountsDevices, VerdictOr}}
use Rattle.dimacs_runs.specs.inside.Judgings.{ReadsIn, TextSpells}
use Rattle.dimacs_runs.specs.inside.Outcomes.{MayReport, judge_outcome, outcome_of}
use Rattle.dimacs_runs.specs.Verdicts.{answer_line, failure_line, sources_line, verdict_lines}
use Rattle.dimacs_jobs.specs.declared.status.Status.{Status}
use Rattle.dimacs_jobs.specs.declared.status.Status.TheVariants.{Done, Refused, GaveUp}
use Rattle.dimacs_judging.proofs.Firsts.{none_first}
use Rattle.dimacs_judging.specs.declared.verdict.JudgeError.TheVariants as judge_errors
use Rattle.dimacs_judging.specs.declared.verdict.Verdict.TheVariants as verdicts
use Rattle.dimacs_instance.specs.QueryTexts as queries

-- ---- what the judges' verdicts show
pub maximum_shown : (i : MaxValue) (s : SolutionValue) (c : CutValue) → ShowsMaximum i s c → Maximum i (claimed_flow i.arcs s.entries)
maximum_shown i s c (x, passes, maximum) = subst (λ (y : List ℤ). Maximum i y) passes.claim.carries.amounts maximum

pub least_shown : (i : MinValue) (s : SolutionValue) (p : PotentialsValue) → ShowsLeast i s p → Least i (claimed_flow i.arcs s.entries)
least_shown i s p (x, passes, least) = subst (λ (y : List ℤ). Least i y) passes.claim.carries.amounts least

-- ---- reports
module _ (holds claim : Type 0) (shows : holds → claim) (rows : List Row) (says : Verdict → Type 0) (lines : List ℕ) (same : (verdict : Verdict) → says verdict → verdict_lines verdict ≡ lines) where
  abbrev possible : Status → List ℕ → Type 0
  possible = VerdictOr rows claim lines

  yes_alone : (verdict : Verdict) → Judges rows holds says (Ok verdict) → ReportsAlone possible Done (verdict_lines verdict)
  yes_alone verdict answer = ((answer.0, shows answer.1, same verdict answer.2), alone)
    where
      alone : (s : Status) (other : List ℕ) → possible s other → (s ≡ Done) × (other ≡ verdict_lines verdict)
      alone Done other h = (refl, h.2 ∙ sym (same verdict answer.2))
      alone Refused other h = absurd (none_first rows h.0 h.1 answer.0 h.2)
      alone GaveUp other h = absurd h

  no_alone : (place : Where) (reason : Reason) → Judges rows holds says (Err (judge_errors.Refused place reason)) → ReportsAlone possible Refused (failure_line place reason)
  no_alone place reason answer = ((place, reason, answer.0.0, refl), alone)
    where
      alone : (s : Status) (other : List ℕ) → possible s other → (s ≡ Refused) × (other ≡ failure_line place reason)
      alone Done other h = absurd (none_first rows place reason h.0 answer.0.0)
      alone Refused other h = let same = answer.0.1 h.0 h.1 h.2 in (refl, h.3 ∙ rw (same.0, same.1) refl)
      alone GaveUp other h = absurd h

  -- the judge answered
  pub answer_alone : (answer : Result Verdict JudgeError) → Judges rows holds says answer → MayReport possible (outcome_of (judge_outcome answer))
  answer_alone (Ok verdict) answer = yes_alone verdict answer
  answer_alone (Err (judge_errors.Refused place reason)) answer = no_alone place reason answer
  answer_alone (Err judge_errors.Memory) answer = tt

-- a text that was read into a place
pub one_placed : {V T : Type 0} (like : V → T → Type 0) (text : TextSpells V) (read : Result V ReadError) (w : T) → AnswersAlike like read (Ok w) → ReadsIn text read → (v : V) × like v w × ReadsIn text (Ok v)
one_placed like text (Ok v) w alike reads = (v, alike, reads)
one_placed like text (Err error) w alike read = absurd alike

-- a text that could not be read
pub none_placed : {V T : Type 0} (like : V → T → Type 0) (text : TextSpells V) (read : Result V ReadError) (error : ReadError) → AnswersAlike like read (Err error) → ReadsIn text read → ReadsIn text (Err error)
none_placed like text (Ok v) error alike read = absurd alike
none_placed like text (Err other) error alike read = subst (λ (e : ReadError). ReadsIn text (Err e)) alike read

-- the lines of the verdict on queries
pub paths_said : (blocks : List BlockValue) (q : QueriesValue) (verdict : Verdict) → AnswersQueries blocks q verdict → verdict_lines verdict ≡ paths_lines blocks q
paths_said blocks (queries.Sources ids) (verdicts.Sources count) is = ap sources_line is
paths_said blocks (queries.Pairs pairs) (verdicts.Pairs answers) is = ap (flat_map answer_line) is
paths_said blocks q verdict is = absurd is

-- a judge's answer is no I/O error
pub judge_outcome_counts : (answer : Result Verdict JudgeError) (p q : ℕ) (old new : List ℕ) → p ∷ [] ≡ q ∷ [] → new ≡ old → CountsDevices (outcome_of (judge_outcome answer)) (q ∷ old) (p ∷ new)
judge_outcome_counts (Ok verdict) p q old new first rest = cc
judge_outcome_counts (Err (judge_errors.Refused place reason)) p q old new first rest = cc
judge_outcome_counts (Err judge_errors.Memory) p q old new first rest = cc
