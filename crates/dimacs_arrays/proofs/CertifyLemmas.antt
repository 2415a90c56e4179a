-- Certifying flows over arrays.
use Rattle.std.proofs.Common.{◌≡◌, ℕ, List, [], ◌∷◌, All, length, ℤ, pos, ◌+ℤ◌, ◌<ℤ◌, arith, inl, sym, subst, ◌∙◌, Result}
use Rattle.std.proofs.{lemmas.List.Elements.{All-head, All-tail}, lemmas.Int.{ints}}
use Rattle.std.specs.{Prelude.{IsErrAnd}, List.{AllZip}}
use Rattle.dimacs_lines.specs.Limits.{IsNode}
use Rattle.dimacs_records.specs.declared.reasons.Reason.{Reason}
use Rattle.dimacs_claims.specs.{Cuts.{CutValue}, Potentials.{PotentialsValue, potential_of}}
use Rattle.dimacs_network.specs.{declared.network.ArcView.{ArcView}, Arcs.{JoinsNodes}}
use Rattle.dimacs_instance.specs.{MaxFlows.{MaxValue}, MinFlows.{MinValue}}
use Rattle.dimacs_judging.specs.{declared.verdict.JudgeError.{JudgeError}, declared.verdict.Where.{Where}, Flows.{cost}}
use Rattle.dimacs_judging.specs.{declared.verdict.JudgeError.TheVariants.{Refused}, Cuts.{CutTight, members}}
use Rattle.dimacs_judging.specs.{Feasible.{FeasibleMax, FeasibleMin, value}, Optimum.{Least, Maximum}}
use Rattle.dimacs_judging.specs.FlowTests.{cost_row, feasible_min_rows, min_demand}
use Rattle.dimacs_judging.specs.Potentials.{IsSlackAt, Slack, reduced_cost}
use Rattle.dimacs_judging.specs.Tests.{AllClear, Clear, First, FirstOfRow, Refutes, Settles, Refuses}
use Rattle.dimacs_arrays.specs.{ByNode.{AreBits, marked, number_of}, declared.certify_max.MaxCertified.{MaxCertified}}
use Rattle.dimacs_arrays.specs.{declared.certify_min.MinCertified.{MinCertified}, MaxArrays.{CertifiesMaxFlow, IsMaxBy}}
use Rattle.dimacs_arrays.specs.MinArrays.{CertifiesMinFlow, IsMinBy, IsMinByWider, IsWider, min_claimed_rows}
use Rattle.dimacs_arrays.specs.inside.MinCertified.{AreShifted, IsLeastBy}
use Rattle.dimacs_judging.proofs.{Firsts.{AllOneWay}, Passing.{costs_clear, costs_wide, feasible_min_clear}}
use Rattle.dimacs_judging.proofs.Reasons.{balance_one_way, bound_one_way, cost_one_way}
use Rattle.dimacs_judging.proofs.RowLists.{all_clear-append, first_after}
use Rattle.dimacs_judging.proofs.Settling.{error_settles, refused_in_front, refuted_refuses}
use Rattle.dimacs_decide.specs.MinDecision.{DecidesMin}
use Rattle.dimacs_decide.specs.declared.least.MinDecision.TheVariants as of_min
use Rattle.dimacs_arrays.specs.declared.certify_max.MaxCertified.TheVariants as max_told
use Rattle.dimacs_arrays.specs.declared.certify_min.MinCertified.TheVariants as min_told

-- ---- maximum
-- a tight cut, as bytes
pub max_by : (i : MaxValue) (x : List ℤ) (cut : CutValue) (total : ℤ) (bytes : List ℕ) → Maximum i x → CutTight i x (members cut) → cut.nodes ≡ i.nodes → total ≡ value i x
    → length bytes ≡ cut.nodes → marked bytes ≡ members cut → AreBits bytes → IsMaxBy i x total bytes
max_by i x cut total bytes maximum tight nodes total_is each marks bits =
    ((record { feasible = maximum.feasible; tight = subst (CutTight i x) (sym marks) tight }, maximum), total_is, each ∙ nodes, bits)

module _ (i : MaxValue) (x : List ℤ) where
  --   each answer about the flow shows that it is feasible
  pub max_feasible : (outcome : MaxCertified) → CertifiesMaxFlow i x outcome → (done : Unit {0}) × FeasibleMax i x
  max_feasible (max_told.Optimal total inside) agrees = (tt, agrees.0.0.feasible)
  max_feasible (max_told.Better y) agrees = (tt, agrees.claimed)

-- ---- least
-- potentials stay slack if the same number is added to each
module _ (nodes : ℕ) (p q : ℕ → ℤ) (shift : ℤ) (sums : (v : ℕ) → IsNode nodes v → q v ≡ p v +ℤ shift) where
  slack_at : (a : ArcView) (z : ℤ) → JoinsNodes nodes a → IsSlackAt p a z → IsSlackAt q a z
  slack_at a z joined slack =
      let same : reduced_cost q a ≡ reduced_cost p a = omega (arith, ints, sums a.tail joined.0, sums a.head joined.1) in
      subst (λ (c : ℤ). (pos 0 <ℤ c → z ≡ a.low) × (c <ℤ pos 0 → z ≡ a.cap)) (sym same) slack

  all_slack : (arcs : List ArcView) (y : List ℤ) → All (JoinsNodes nodes) arcs → AllZip (IsSlackAt p) arcs y → AllZip (IsSlackAt q) arcs y
  all_slack [] [] joined slack = tt
  all_slack [] (z ∷ y) joined slack = absurd slack
  all_slack (a ∷ arcs) [] joined slack = absurd slack
  all_slack (a ∷ arcs) (z ∷ y) joined slack = (slack_at a z (All-head (JoinsNodes nodes) a arcs joined) slack.0, all_slack arcs y (All-tail (JoinsNodes nodes) a arcs joined) slack.1)

module _ (i : MinValue) (x : List ℤ) (p : PotentialsValue) (total : ℤ) where
  --   slack potentials, in an array
  pub min_by : (numbers : List ℤ) → All (JoinsNodes i.nodes) i.arcs → Least i x → Clear (cost_row i.arcs x) → Slack i.arcs x (potential_of p) → p.nodes ≡ i.nodes → total ≡ cost i.arcs x
      → (shift : ℤ) → AreShifted p shift numbers → IsMinBy i x total numbers
  min_by numbers joined least costs slack nodes total_is shift are =
      let sums = subst (λ (n : ℕ). (v : ℕ) → IsNode n v → number_of numbers v ≡ potential_of p v +ℤ shift) nodes are.sums in
      let moved = all_slack i.nodes (potential_of p) (number_of numbers) shift sums i.arcs x joined slack in
      ((record { feasible = least.feasible; costs_wide = costs_wide i.arcs x costs; slack = moved }, least), total_is, are.each ∙ nodes)

  --   or slack potentials that don't fit into one
  pub min_by_wider : Least i x → Clear (cost_row i.arcs x) → Slack i.arcs x (potential_of p) → p.nodes ≡ i.nodes → total ≡ cost i.arcs x → IsWider p → IsMinByWider i x total p
  min_by_wider least costs slack nodes total_is wider = ((record { feasible = least.feasible; costs_wide = costs_wide i.arcs x costs; slack = slack }, least), total_is, nodes, wider)

module _ (i : MinValue) (x : List ℤ) where
  min_one_way : AllOneWay (min_claimed_rows i x)
  min_one_way = (bound_one_way i.arcs x, (balance_one_way i.nodes i.arcs (min_demand i) x, (cost_one_way i.arcs x, tt)))

  min_clear : (outcome : MinCertified) → CertifiesMinFlow i x outcome → AllClear (min_claimed_rows i x)
  min_clear (min_told.Optimal total potentials) agrees = all_clear-append (feasible_min_rows i x) (cost_row i.arcs x ∷ []) (feasible_min_clear i x agrees.0.0.feasible) (costs_clear i.arcs x agrees.0.0.costs_wide, tt)
  min_clear (min_told.Wide total p) agrees = all_clear-append (feasible_min_rows i x) (cost_row i.arcs x ∷ []) (feasible_min_clear i x agrees.0.0.feasible) (costs_clear i.arcs x agrees.0.0.costs_wide, tt)
  min_clear (min_told.Better y) agrees = all_clear-append (feasible_min_rows i x) (cost_row i.arcs x ∷ []) (feasible_min_clear i x agrees.claimed) (costs_clear i.arcs x agrees.costs_wide, tt)

  min_refused : (error : JudgeError) → Refuses (First (min_claimed_rows i x)) error → (result : Result MinCertified JudgeError) → IsErrAnd result (λ e. e ≡ error) → Settles (CertifiesMinFlow i x) (min_claimed_rows i x) result
  min_refused error first result is = error_settles (CertifiesMinFlow i x) (min_claimed_rows i x) min_one_way min_clear error first result is

  -- the first test that fails
  pub min_infeasible : (error : JudgeError) → Refutes (λ (done : Unit {0}). FeasibleMin i x) (feasible_min_rows i x) error → (result : Result MinCertified JudgeError) → IsErrAnd result (λ e. e ≡ error)
      → Settles (CertifiesMinFlow i x) (min_claimed_rows i x) result
  min_infeasible error outcome = min_refused error (refused_in_front (feasible_min_rows i x) (cost_row i.arcs x ∷ []) error (refuted_refuses _ (feasible_min_rows i x) error outcome))

  module _ (feasible : FeasibleMin i x) where
    pub min_costly : (place : Where) (reason : Reason) → FirstOfRow (cost_row i.arcs x) place reason → (result : Result MinCertified JudgeError) → IsErrAnd result (λ e. e ≡ Refused place reason)
        → Settles (CertifiesMinFlow i x) (min_claimed_rows i x) result
    min_costly place reason first =
        min_refused (Refused place reason) (first_after (feasible_min_rows i x) (cost_row i.arcs x ∷ []) place reason (feasible_min_clear i x feasible) (inl first))

    module _ (costs : Clear (cost_row i.arcs x)) where
      pub min_better : (y : List ℤ) → DecidesMin i x (of_min.Better y) → CertifiesMinFlow i x (min_told.Better y)
      min_better y outcome = record { claimed = feasible; costs_wide = costs_wide i.arcs x costs; not_least = outcome.0; feasible = outcome.1; less = outcome.2 }

      pub min_least : All (JoinsNodes i.nodes) i.arcs → (total : ℤ) (p : PotentialsValue) (outcome : MinCertified) → total ≡ cost i.arcs x → DecidesMin i x (of_min.Optimal p) → IsLeastBy total p outcome → CertifiesMinFlow i x outcome
      min_least joined total p (min_told.Optimal said potentials) total_is decided is = min_by i x p said potentials.items joined decided.0 costs decided.1 decided.2 (is.0 ∙ total_is) is.1.0 is.1.1
      min_least joined total p (min_told.Wide said q) total_is decided is = rw is.1 (min_by_wider i x p said decided.0 costs decided.1 decided.2 (is.0 ∙ total_is) is.2)
      min_least joined total p (min_told.Better y) total_is decided is = absurd is
