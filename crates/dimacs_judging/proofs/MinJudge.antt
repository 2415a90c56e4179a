-- Solutions and potentials that pass their tests, and the first test that fails.
use Rattle.std.proofs.Common.{◌≡◌, inl, inr, List, [], ◌∷◌, Result, ℤ, subst, sym, refl, ◌++◌}
use Rattle.std.specs.Prelude.{IsErrAnd}
use Rattle.dimacs_claims.specs.{Potentials.{PotentialsValue, potential_of}, SolutionTexts.{SolutionValue}}
use Rattle.dimacs_instance.specs.MinFlows.{MinValue, IsMin}
use Rattle.dimacs_records.specs.declared.reasons.Reason.{Reason}
use Rattle.dimacs_records.specs.declared.reasons.Reason.TheVariants.{ValueDiffers, NodesDiffer}
use Rattle.dimacs_judging.specs.{declared.verdict.JudgeError.{JudgeError}, declared.verdict.Verdict.{Verdict}}
use Rattle.dimacs_judging.specs.{declared.verdict.JudgeError.TheVariants.{Refused}, declared.verdict.Where.{Where}}
use Rattle.dimacs_judging.specs.{declared.verdict.Verdict.TheVariants.{Min}, Agreement.{value_row, nodes_row}}
use Rattle.dimacs_judging.specs.{declared.verdict.Where.TheVariants.{Solution, Certificate}, Flows.{cost}}
use Rattle.dimacs_judging.specs.{CertificateTests.{slack_row}, Claims.{Carries, claimed_flow, entry_row}}
use Rattle.dimacs_judging.specs.{FlowTests.{min_demand, feasible_min_rows, cost_row}, Potentials.{Slack}}
use Rattle.dimacs_judging.specs.MinJudge.{IsMinClaim, PassesMin, ShowsLeast, min_claim_rows, min_rows}
use Rattle.dimacs_judging.specs.Tests.{Row, Clear, AllClear, FirstOfRow, First, Judges, Refuses}
use Rattle.dimacs_judging.proofs.{Claims.{carries_clear, length-carried, entry_one_way}, Duality.{slack_is_least}}
use Rattle.dimacs_judging.proofs.Firsts.{AllOneWay, one_test_one_way}
use Rattle.dimacs_judging.proofs.Passing.{feasible_min_holds, feasible_min_clear, costs_wide, costs_clear, value_is, value_clear, nodes_are, nodes_clear, slack_clear}
use Rattle.dimacs_judging.proofs.Reasons.{bound_one_way, balance_one_way, cost_one_way, slack_one_way}
use Rattle.dimacs_judging.proofs.RowLists.{all_clear-append, all_one_way-append, first_after}
use Rattle.dimacs_judging.proofs.Settling.{refused_among, refused_in_front, error_judges}

-- ---- the claim
module _ (i : MinValue) (s : SolutionValue) where
  pub claim_one_way : AllOneWay (min_claim_rows i s)
  claim_one_way =
      let x = claimed_flow i.arcs s.entries in
      (entry_one_way i.arcs s.entries, (bound_one_way i.arcs x, (balance_one_way i.nodes i.arcs (min_demand i) x, (cost_one_way i.arcs x, (one_test_one_way (Solution s.value_line 2) ValueDiffers _, tt)))))

  -- the tests of this flow, of the range of its costs, and of its cost
  abbrev flow_tests : List ℤ → List Row
  flow_tests x = entry_row i.arcs s.entries ∷ feasible_min_rows i x

  abbrev value_test : List ℤ → Row
  value_test x = value_row (cost i.arcs x) s.value s.value_line

  abbrev claim_tests : List ℤ → List Row
  claim_tests x = flow_tests x ++ cost_row i.arcs x ∷ value_test x ∷ []

  -- if the flow is the claimed one, all tests pass
  pub claim_clear : (x : List ℤ) → IsMinClaim i s x → AllClear (min_claim_rows i s)
  claim_clear x claim =
      let feasible = feasible_min_clear i x claim.feasible in
      subst (λ (y : List ℤ). AllClear (claim_tests y)) claim.carries.amounts (
        carries_clear i.arcs s.entries x claim.carries,
        (feasible.0, (feasible.1.0, (costs_clear i.arcs x claim.costs_wide, (value_clear (cost i.arcs x) s.value s.value_line (sym claim.cost_is), tt)))),
      )

  -- the first test that fails after others that pass, for the flow of the solution
  module _ (x : List ℤ) (carries : Carries i.arcs s.entries x) where
    refused : (front rows more : List Row) → front ++ (rows ++ more) ≡ claim_tests x → (error : JudgeError) → AllClear front → Refuses (First rows) error → Refuses (First (min_claim_rows i s)) error
    refused = refused_among claim_tests x (claimed_flow i.arcs s.entries) carries.amounts

    entries_clear : Clear (entry_row i.arcs s.entries)
    entries_clear = carries_clear i.arcs s.entries x carries

    pub flow_refused : (error : JudgeError) → Refuses (First (feasible_min_rows i x ++ cost_row i.arcs x ∷ [])) error → Refuses (First (min_claim_rows i s)) error
    flow_refused error first = refused (entry_row i.arcs s.entries ∷ []) (feasible_min_rows i x ++ cost_row i.arcs x ∷ []) (value_test x ∷ []) refl error (entries_clear, tt) first

    module _ (feasible : AllClear (feasible_min_rows i x)) (costs : Clear (cost_row i.arcs x)) where
      pub value_refused : (place : Where) (reason : Reason) → FirstOfRow (value_test x) place reason → Refuses (First (min_claim_rows i s)) (Refused place reason)
      value_refused place reason first =
          refused (flow_tests x ++ cost_row i.arcs x ∷ []) (value_test x ∷ []) [] refl (Refused place reason) (entries_clear, (feasible.0, (feasible.1.0, (costs, tt)))) (inl first)

      -- all tests pass
      pub claim_holds : Clear (value_test x) → IsMinClaim i s x
      claim_holds agrees = record {
        carries = carries;
        feasible = feasible_min_holds i x (length-carried i.arcs s.entries x carries) feasible;
        costs_wide = costs_wide i.arcs x costs;
        cost_is = sym (value_is (cost i.arcs x) s.value s.value_line agrees);
      }

-- ---- the potentials
module _ (i : MinValue) (s : SolutionValue) (p : PotentialsValue) where
  abbrev certificate_tests : List ℤ → List Row
  certificate_tests x = nodes_row i.nodes p.nodes ∷ slack_row i.arcs (potential_of p) x ∷ []

  min_one_way : AllOneWay (min_rows i s p)
  min_one_way =
      let x = claimed_flow i.arcs s.entries in
      all_one_way-append (min_claim_rows i s) (certificate_tests x) (claim_one_way i s) (one_test_one_way Certificate NodesDiffer _, (slack_one_way i.arcs (potential_of p) x, tt))

  -- if a flow passes, all tests pass
  pub min_clear : (x : List ℤ) → PassesMin i s p x → AllClear (min_rows i s p)
  min_clear x passes =
      let y = claimed_flow i.arcs s.entries in
      all_clear-append (min_claim_rows i s) (certificate_tests y) (claim_clear i s x passes.claim)
      (subst (λ (y : List ℤ). AllClear (certificate_tests y)) passes.claim.carries.amounts (nodes_clear i.nodes p.nodes passes.nodes_are, (slack_clear i.arcs (potential_of p) x passes.slack, tt)))

  -- the first test that fails is the judge's error
  pub min_judged : (error : JudgeError) → Refuses (First (min_rows i s p)) error → (result : Result Verdict JudgeError) → IsErrAnd result (λ e. e ≡ error)
      → Judges (min_rows i s p) (ShowsLeast i s p) (λ verdict. verdict ≡ Min s.value) result
  min_judged error first result is = error_judges (min_rows i s p) (ShowsLeast i s p) _ min_one_way (λ shown. let (x, passes, best) = shown in min_clear x passes) error first result is

  pub claim_refused : (error : JudgeError) → Refuses (First (min_claim_rows i s)) error → Refuses (First (min_rows i s p)) error
  claim_refused error first = refused_in_front (min_claim_rows i s) (certificate_tests (claimed_flow i.arcs s.entries)) error first

  -- after the tests of the claim have passed
  module _ (x : List ℤ) (claim : IsMinClaim i s x) where
    certificate_refused : (place : Where) (reason : Reason) → First (certificate_tests x) place reason → Refuses (First (min_rows i s p)) (Refused place reason)
    certificate_refused place reason first =
        first_after (min_claim_rows i s) (certificate_tests (claimed_flow i.arcs s.entries)) place reason (claim_clear i s x claim) (subst (λ (y : List ℤ). First (certificate_tests y) place reason) claim.carries.amounts first)

    pub nodes_refused : (place : Where) (reason : Reason) → FirstOfRow (nodes_row i.nodes p.nodes) place reason → Refuses (First (min_rows i s p)) (Refused place reason)
    nodes_refused place reason first = certificate_refused place reason (inl first)

    module _ (same_nodes : Clear (nodes_row i.nodes p.nodes)) where
      pub slack_refused : (place : Where) (reason : Reason) → First (slack_row i.arcs (potential_of p) x ∷ []) place reason → Refuses (First (min_rows i s p)) (Refused place reason)
      slack_refused place reason first = certificate_refused place reason (inr (same_nodes, first))

      -- all tests pass
      pub min_passed : IsMin i → Slack i.arcs x (potential_of p) → AllClear (min_rows i s p) × ShowsLeast i s p
      min_passed law slack =
          let passes : PassesMin i s p x = record { claim = claim; nodes_are = nodes_are i.nodes p.nodes same_nodes; slack = slack } in
          (min_clear x passes, (x, passes, slack_is_least i law.joined x (potential_of p) claim.feasible slack))
