-- The outcomes of solvers.
use Rattle.std.proofs.Common.{◌≡◌, ◌≢◌, ◌∙◌, ◌+◌, ℕ, List, Result, Ok, Err, IfOk, refl, sym, ap, inl, inr, arith}
use Rattle.std.proofs.{lemmas.Int.{ints}, lemmas.Bool.{cases_order}}
use Rattle.dimacs_network.specs.{declared.network.ArcView.{ArcView}, Arcs.{NetworkValue}}
use Rattle.dimacs_instance.specs.{MaxFlows.{MaxValue}, MinFlows.{MinValue}, QueryTexts.{QueriesValue}}
use Rattle.dimacs_claims.specs.SolutionTexts.{claimed}
use Rattle.dimacs_records.specs.declared.reasons.Reason.{Reason}
use Rattle.dimacs_judging.specs.{declared.verdict.Where.{Where}, declared.verdict.Where.TheVariants.{Arc}}
use Rattle.dimacs_judging.specs.QueryTests.{query_node_row}
use Rattle.dimacs_judging.proofs.{Firsts.{one_of_row}, QueriesPassing.{query_node_one_way}}
use Rattle.dimacs_solve.specs.{declared.error.SolveError.{SolveError}, declared.maximum.MaxAnswer.{MaxAnswer}}
use Rattle.dimacs_solve.specs.{declared.least.MinAnswer.{MinAnswer}, Paths.{IsFirstNegative, SolvesPaths}}
use Rattle.dimacs_solve.specs.{SolveMax.{SolvesMax}, SolveMin.{SolvesMin}}
use Rattle.dimacs_jobs.specs.{declared.status.Status.TheVariants.{Refused}, declared.status.RunError.{RunError}}
use Rattle.dimacs_jobs.specs.declared.status.RunError.TheVariants.{Device}
use Rattle.dimacs_runs.specs.{Judgings.{CountsDevices}, Outputs.{MayWrite}, declared.outcome.Outcome.{Outcome}}
use Rattle.dimacs_runs.specs.Verdicts.{failure_line}
use Rattle.dimacs_runs.specs.inside.Outcomes.{IsReadable, MaySolve, least_outcome, maximum_outcome, outcome_of, solve_end}
use Rattle.dimacs_runs.specs.Solved.{FindsLeast, FindsMaximum, FindsPaths, RefusesPaths, report_alone}
use Rattle.dimacs_records.specs.declared.reasons.Reason.TheVariants as reasons
use Rattle.dimacs_solve.specs.declared.error.SolveError.TheVariants as solve_errors
use Rattle.dimacs_solve.specs.declared.maximum.MaxAnswer.TheVariants as answers
use Rattle.dimacs_solve.specs.declared.least.MinAnswer.TheVariants as min_answers

-- the certificate of the outcome can be read again
abbrev Readable : Outcome → Type 0
Readable outcome = IsReadable outcome.shown

-- the solver of maximum flows answered
pub maximum_ends : (i : MaxValue) (limit : ℕ) (answer : Result MaxAnswer SolveError) → SolvesMax i limit answer → IfOk (maximum_outcome answer) Readable → MaySolve (FindsMaximum i limit) (outcome_of (maximum_outcome answer))
maximum_ends i limit (Ok (answers.Optimal solution cut)) found readable = ((found.0, claimed solution, cut, found.1, readable, refl), λ refusal never. absurd never)
maximum_ends i limit (Ok answers.GaveUp) gave_up readable = ((gave_up, refl), λ refusal never. absurd never)
maximum_ends i limit (Err solve_errors.Memory) nothing readable = tt
maximum_ends i limit (Err other) never readable = absurd never

-- the solver of minimum cost flows answered
pub least_ends : (i : MinValue) (limit : ℕ) (answer : Result MinAnswer SolveError) → SolvesMin i limit answer → IfOk (least_outcome answer) Readable → MaySolve (FindsLeast i limit) (outcome_of (least_outcome answer))
least_ends i limit (Ok (min_answers.Optimal solution potentials)) found readable = (inl (claimed solution, potentials, found, readable, refl), λ refusal never. absurd never)
least_ends i limit (Ok (min_answers.Infeasible set)) found readable = (inr (set, found, readable, refl), λ refusal never. absurd never)
least_ends i limit (Ok min_answers.GaveUp) gave_up readable = ((gave_up, refl), λ refusal never. absurd never)
least_ends i limit (Err solve_errors.Memory) nothing readable = tt
least_ends i limit (Err other) never readable = absurd never

same_first : (arcs : List ArcView) (j k : ℕ) → IsFirstNegative arcs j → IsFirstNegative arcs k → j ≡ k
same_first arcs j k f g = elim (cases_order f.index g.index) [
  | inl is ↦ f.counted ∙ ap (λ (n : ℕ). n + 1) is ∙ sym g.counted
  | inr m ↦ elim m [ inl before ↦ absurd (omega (arith, ints, f.negative, g.earlier f.index before)) | inr before ↦ absurd (omega (arith, ints, g.negative, f.earlier g.index before)) ]
]

same_refusal : (g : NetworkValue) (q : QueriesValue) (p s : Where) (r why : Reason) → RefusesPaths g q p r → RefusesPaths g q s why → (p ≡ s) × (r ≡ why)
same_refusal g q p s r why (inl f) (inl h) = one_of_row (query_node_row g.nodes q) p s r why (query_node_one_way g.nodes q) f h
same_refusal g q p s r why (inl f) (inr (clear, (k, is, place, reason))) = absurd (clear f.number p r f.fails)
same_refusal g q p s r why (inr (clear, (k, is, place, reason))) (inl h) = absurd (clear h.number s why h.fails)
same_refusal g q p s r why (inr (clear, (k, is, place, reason))) (inr (clear_too, (j, is_too, place_too, reason_too))) = (rw (place, place_too, same_first g.arcs k j is is_too) refl, reason ∙ sym reason_too)

module _ (g : NetworkValue) (q : QueriesValue) where
  refusal_ends : (place : Where) (reason : Reason) → RefusesPaths g q place reason → MayWrite (FindsPaths g q) Refused (report_alone (failure_line place reason))
  refusal_ends place reason refuses = ((place, reason, refuses, refl), alone)
    where
      alone : (refusal : List (List ℕ)) → FindsPaths g q Refused refusal → (Refused ≡ Refused) × (report_alone (failure_line place reason) ≡ refusal)
      alone refusal (other, why, also, is) = let same = same_refusal g q place other reason why refuses also in (refl, sym (is ∙ rw (same.0, same.1) refl))

  -- the solver of distances refused
  pub error_ends : (error : SolveError) → SolvesPaths g q (Err error) → MaySolve (FindsPaths g q) (outcome_of (Err (solve_end error)))
  error_ends (solve_errors.NegativeWeight arc) (clear, first) = refusal_ends (Arc arc) reasons.NegativeWeight (inr (clear, (arc, first, refl, refl)))
  error_ends (solve_errors.Refused place reason) first = refusal_ends place reason (inl first)
  error_ends solve_errors.Memory nothing = tt

-- a run without an I/O error has no new fault
pub counts_none : {X : Type 0} (result : Result X RunError) (old new : List ℕ) → result ≢ Err Device → new ≡ old → CountsDevices result old new
counts_none (Err Device) old new other same = absurd (other refl)
counts_none result old new other same = same
