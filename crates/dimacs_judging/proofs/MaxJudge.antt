-- Solutions and cuts that pass their tests, and the first test that fails.
use Rattle.std.proofs.Common.{◌≡◌, inl, inr, List, [], ◌∷◌, Result, ℤ, subst, sym, refl, ◌++◌}
use Rattle.std.specs.Prelude.{IsErrAnd}
use Rattle.dimacs_claims.specs.{Cuts.{CutValue}, SolutionTexts.{SolutionValue}}
use Rattle.dimacs_instance.specs.MaxFlows.{MaxValue, IsMax}
use Rattle.dimacs_records.specs.declared.reasons.Reason.{Reason}
use Rattle.dimacs_records.specs.declared.reasons.Reason.TheVariants.{ValueDiffers, NodesDiffer}
use Rattle.dimacs_judging.specs.{declared.verdict.JudgeError.{JudgeError}, declared.verdict.Verdict.{Verdict}}
use Rattle.dimacs_judging.specs.{declared.verdict.JudgeError.TheVariants.{Refused}, declared.verdict.Where.{Where}}
use Rattle.dimacs_judging.specs.{declared.verdict.Verdict.TheVariants.{Max}, Agreement.{value_row, nodes_row}}
use Rattle.dimacs_judging.specs.{declared.verdict.Where.TheVariants.{Solution, Certificate}, Cuts.{CutTight, members}}
use Rattle.dimacs_judging.specs.{CertificateTests.{cut_rows}, Claims.{Carries, claimed_flow, entry_row}}
use Rattle.dimacs_judging.specs.{Feasible.{value}, FlowTests.{max_demand, feasible_max_rows}}
use Rattle.dimacs_judging.specs.MaxJudge.{IsMaxClaim, PassesMax, ShowsMaximum, max_claim_rows, max_rows}
use Rattle.dimacs_judging.specs.Tests.{Row, Clear, AllClear, FirstOfRow, First, Judges, Refuses}
use Rattle.dimacs_judging.proofs.{Claims.{carries_clear, length-carried, entry_one_way}, Duality.{tight_is_maximum}}
use Rattle.dimacs_judging.proofs.Firsts.{AllOneWay, one_test_one_way}
use Rattle.dimacs_judging.proofs.Passing.{feasible_max_holds, feasible_max_clear, value_is, value_clear, nodes_are, nodes_clear, tight_cut_clear}
use Rattle.dimacs_judging.proofs.Reasons.{bound_one_way, balance_one_way, cut_one_way}
use Rattle.dimacs_judging.proofs.RowLists.{all_clear-append, all_one_way-append, first_after}
use Rattle.dimacs_judging.proofs.Settling.{refused_among, refused_in_front, error_judges}

-- ---- the claim
module _ (i : MaxValue) (s : SolutionValue) where
  pub claim_one_way : AllOneWay (max_claim_rows i s)
  claim_one_way =
      let x = claimed_flow i.arcs s.entries in
      (entry_one_way i.arcs s.entries, (bound_one_way i.arcs x, (balance_one_way i.nodes i.arcs (max_demand i) x, (one_test_one_way (Solution s.value_line 2) ValueDiffers _, tt))))

  -- the tests of this flow, and of its value
  abbrev flow_tests : List ℤ → List Row
  flow_tests x = entry_row i.arcs s.entries ∷ feasible_max_rows i x

  abbrev value_test : List ℤ → Row
  value_test x = value_row (value i x) s.value s.value_line

  abbrev claim_tests : List ℤ → List Row
  claim_tests x = flow_tests x ++ value_test x ∷ []

  -- if the flow is the claimed one, all tests pass
  pub claim_clear : IsMax i → (x : List ℤ) → IsMaxClaim i s x → AllClear (max_claim_rows i s)
  claim_clear law x claim =
      let feasible = feasible_max_clear i x law claim.feasible in
      subst (λ (y : List ℤ). AllClear (claim_tests y)) claim.carries.amounts (
        carries_clear i.arcs s.entries x claim.carries,
        (feasible.0, (feasible.1.0, (value_clear (value i x) s.value s.value_line (sym claim.value_is), tt))),
      )

  -- the first test that fails after others that pass, for the flow of the solution
  module _ (x : List ℤ) (carries : Carries i.arcs s.entries x) where
    refused : (front rows more : List Row) → front ++ (rows ++ more) ≡ claim_tests x → (error : JudgeError) → AllClear front → Refuses (First rows) error → Refuses (First (max_claim_rows i s)) error
    refused = refused_among claim_tests x (claimed_flow i.arcs s.entries) carries.amounts

    entries_clear : Clear (entry_row i.arcs s.entries)
    entries_clear = carries_clear i.arcs s.entries x carries

    pub flow_refused : (error : JudgeError) → Refuses (First (feasible_max_rows i x)) error → Refuses (First (max_claim_rows i s)) error
    flow_refused error first = refused (entry_row i.arcs s.entries ∷ []) (feasible_max_rows i x) (value_test x ∷ []) refl error (entries_clear, tt) first

    module _ (feasible : AllClear (feasible_max_rows i x)) where
      pub value_refused : (place : Where) (reason : Reason) → FirstOfRow (value_test x) place reason → Refuses (First (max_claim_rows i s)) (Refused place reason)
      value_refused place reason first = refused (flow_tests x) (value_test x ∷ []) [] refl (Refused place reason) (entries_clear, feasible) (inl first)

      -- all tests pass
      pub claim_holds : IsMax i → Clear (value_test x) → IsMaxClaim i s x
      claim_holds law agrees = record {
        carries = carries;
        feasible = feasible_max_holds i x law (length-carried i.arcs s.entries x carries) feasible;
        value_is = sym (value_is (value i x) s.value s.value_line agrees);
      }

-- ---- the cut
module _ (i : MaxValue) (s : SolutionValue) (c : CutValue) where
  abbrev certificate_tests : List ℤ → List Row
  certificate_tests x = nodes_row i.nodes c.nodes ∷ cut_rows i (members c) x

  max_one_way : AllOneWay (max_rows i s c)
  max_one_way =
      let x = claimed_flow i.arcs s.entries in
      all_one_way-append (max_claim_rows i s) (certificate_tests x) (claim_one_way i s) (one_test_one_way Certificate NodesDiffer _, cut_one_way i (members c) x)

  -- if a flow passes, all tests pass
  pub max_clear : IsMax i → (x : List ℤ) → PassesMax i s c x → AllClear (max_rows i s c)
  max_clear law x passes =
      let y = claimed_flow i.arcs s.entries in
      all_clear-append (max_claim_rows i s) (certificate_tests y) (claim_clear i s law x passes.claim)
      (subst (λ (y : List ℤ). AllClear (certificate_tests y)) passes.claim.carries.amounts (nodes_clear i.nodes c.nodes passes.nodes_are, tight_cut_clear i (members c) x passes.tight))

  -- the first test that fails is the judge's error
  pub max_judged : IsMax i → (error : JudgeError) → Refuses (First (max_rows i s c)) error → (result : Result Verdict JudgeError) → IsErrAnd result (λ e. e ≡ error)
      → Judges (max_rows i s c) (ShowsMaximum i s c) (λ verdict. verdict ≡ Max s.value) result
  max_judged law error first result is = error_judges (max_rows i s c) (ShowsMaximum i s c) _ max_one_way (λ shown. let (x, passes, best) = shown in max_clear law x passes) error first result is

  pub claim_refused : (error : JudgeError) → Refuses (First (max_claim_rows i s)) error → Refuses (First (max_rows i s c)) error
  claim_refused error first = refused_in_front (max_claim_rows i s) (certificate_tests (claimed_flow i.arcs s.entries)) error first

  -- after the tests of the claim have passed
  module _ (law : IsMax i) (x : List ℤ) (claim : IsMaxClaim i s x) where
    certificate_refused : (place : Where) (reason : Reason) → First (certificate_tests x) place reason → Refuses (First (max_rows i s c)) (Refused place reason)
    certificate_refused place reason first =
        first_after (max_claim_rows i s) (certificate_tests (claimed_flow i.arcs s.entries)) place reason (claim_clear i s law x claim) (subst (λ (y : List ℤ). First (certificate_tests y) place reason) claim.carries.amounts first)

    pub nodes_refused : (place : Where) (reason : Reason) → FirstOfRow (nodes_row i.nodes c.nodes) place reason → Refuses (First (max_rows i s c)) (Refused place reason)
    nodes_refused place reason first = certificate_refused place reason (inl first)

    module _ (same_nodes : Clear (nodes_row i.nodes c.nodes)) where
      pub cut_refused : (place : Where) (reason : Reason) → First (cut_rows i (members c) x) place reason → Refuses (First (max_rows i s c)) (Refused place reason)
      cut_refused place reason first = certificate_refused place reason (inr (same_nodes, first))

      -- all tests pass
      pub max_passed : CutTight i x (members c) → AllClear (max_rows i s c) × ShowsMaximum i s c
      max_passed tight =
          let passes : PassesMax i s c x = record { claim = claim; nodes_are = nodes_are i.nodes c.nodes same_nodes; tight = tight } in
          (max_clear law x passes, (x, passes, tight_is_maximum i law.joined law.source_within x (members c) claim.feasible tight))
