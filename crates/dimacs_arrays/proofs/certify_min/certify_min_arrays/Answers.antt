use Rattle.std.proofs.Common.{◌∙◌, List, [], ◌∷◌, ℤ, length, subst, sym}
use Rattle.std.proofs.lemmas.List.FromFn.{length-map-range_with_len}
use Rattle.dimacs_instance.specs.MinFlows.{MinValue, IsMin}
use Rattle.dimacs_judging.specs.Tests.{Settles}
use Rattle.dimacs_arrays.specs.{declared.certify_min.MinCertified.{MinCertified}, declared.min.MinArrays.{MinArrays}}
use Rattle.dimacs_arrays.specs.{declared.error.Array.TheVariants.{Flows}, declared.lengths.ArrayLength.{ArrayLength}}
use Rattle.dimacs_arrays.specs.Answers.{length_of}
use Rattle.dimacs_arrays.specs.MinArrays.{CertifiesMinFlow, min_arc, min_claimed_rows, min_lengths, min_limits, min_spelled}
use Rattle.dimacs_arrays.proofs.AnswerLemmas.{Call, all_fit, call_tells, call_tells_limit, call_tells_refusal}
use Rattle.dimacs_arrays.proofs.MinLemmas.{min_clear, min_one_way}
use Rattle.dimacs_arrays.proofs.certify_min.certify_min_arrays.Goals as goal

abbrev claim_lengths : MinArrays → List ℤ → List ArrayLength
claim_lengths a x = length_of Flows (length x) (length a.tails.now) ∷ []

abbrev call : MinArrays → List ℤ → Call MinCertified MinValue
call a x = record { lengths = min_lengths a; claim_lengths = claim_lengths a x; limits = min_limits a; spelled = min_spelled a; lawful = IsMin; answers = λ i. Settles (CertifiesMinFlow i x) (min_claimed_rows i x) }

pub returns-in_err-instance : goal.returns-in_err-instance
returns-in_err-instance c =
    let rest = rw c.of.ensures at c.in_ok-lengths_hold-2.ensures in
    call_tells_limit (call c.args.arrays.now c.args.flows.now) c.in_ok-lengths_hold.ensures rest (min_one_way c.args.arrays.now) (min_clear c.args.arrays.now) _ c.in_err-instance.ensures _ c.from_residual-in_err-instance.ensures.1

pub certify_over-requires : goal.certify_over-requires
certify_over-requires c =
    let rest = rw c.of.ensures at c.in_ok-lengths_hold-2.ensures in
    rw c.in_ok-instance.ensures ((all_fit (claim_lengths c.args.arrays.now c.args.flows.now) rest).0 ∙ sym (length-map-range_with_len (min_arc c.args.arrays.now) 0 (length c.args.arrays.now.tails.now)))

pub returns-in_err-certify_over : goal.returns-in_err-certify_over
returns-in_err-certify_over c =
    let rest = rw c.of.ensures at c.in_ok-lengths_hold-2.ensures in
    let law : IsMin c.in_ok-instance.instance = subst (λ (m : MinValue). IsMin m) c.instance-2.view_is c.instance-2.invariant in
    call_tells_refusal (call c.args.arrays.now c.args.flows.now) c.in_ok-lengths_hold.ensures rest c.in_ok-instance.instance c.in_ok-instance.ensures law _ c.in_err-certify_over.ensures _ c.from_residual-in_err-certify_over.ensures.1

pub returns : goal.returns
returns c =
    let rest = rw c.of.ensures at c.in_ok-lengths_hold-2.ensures in
    let law : IsMin c.in_ok-instance.instance = subst (λ (m : MinValue). IsMin m) c.instance-2.view_is c.instance-2.invariant in
    call_tells (call c.args.arrays.now c.args.flows.now) c.in_ok-lengths_hold.ensures rest c.in_ok-instance.instance c.in_ok-instance.ensures law _ c.in_ok-certify_over.ensures
