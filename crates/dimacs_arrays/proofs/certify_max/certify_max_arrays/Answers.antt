use Rattle.std.proofs.{Common.{◌∙◌, List, [], ◌∷◌, ℤ, length, sym}, lemmas.List.FromFn.{length-map-range_with_len}}
use Rattle.dimacs_instance.specs.MaxFlows.{MaxValue, IsMax}
use Rattle.dimacs_judging.specs.{FlowTests.{feasible_max_rows}, Tests.{Settles}}
use Rattle.dimacs_arrays.specs.{declared.certify_max.MaxCertified.{MaxCertified}, declared.max.MaxArrays.{MaxArrays}}
use Rattle.dimacs_arrays.specs.{declared.error.Array.TheVariants.{Flows}, declared.lengths.ArrayLength.{ArrayLength}}
use Rattle.dimacs_arrays.specs.Answers.{length_of}
use Rattle.dimacs_arrays.specs.MaxArrays.{CertifiesMaxFlow, max_arc, max_lengths, max_limits, max_spelled}
use Rattle.dimacs_arrays.proofs.AnswerLemmas.{Call, all_fit, call_tells, call_tells_limit, call_tells_refusal}
use Rattle.dimacs_arrays.proofs.MaxLemmas.{max_clear, max_one_way}
use Rattle.dimacs_arrays.proofs.certify_max.certify_max_arrays.Goals as goal

abbrev claim_lengths : MaxArrays → List ℤ → List ArrayLength
claim_lengths a x = length_of Flows (length x) (length a.tails.now) ∷ []

abbrev call : MaxArrays → List ℤ → Call MaxCertified MaxValue
call a x = record { lengths = max_lengths a; claim_lengths = claim_lengths a x; limits = max_limits a; spelled = max_spelled a; lawful = IsMax; answers = λ i. Settles (CertifiesMaxFlow i x) (feasible_max_rows i x) }

pub returns-in_err-instance : goal.returns-in_err-instance
returns-in_err-instance c =
    let rest = rw c.of.ensures at c.in_ok-lengths_hold-2.ensures in
    call_tells_limit (call c.args.arrays.now c.args.flows.now) c.in_ok-lengths_hold.ensures rest (max_one_way c.args.arrays.now) (max_clear c.args.arrays.now) _ c.in_err-instance.ensures.spells _ c.from_residual-in_err-instance.ensures.1

pub certify_over-requires : goal.certify_over-requires
certify_over-requires c =
    let rest = rw c.of.ensures at c.in_ok-lengths_hold-2.ensures in
    rw c.in_ok-instance.ensures.spells ((all_fit (claim_lengths c.args.arrays.now c.args.flows.now) rest).0 ∙ sym (length-map-range_with_len (max_arc c.args.arrays.now) 0 (length c.args.arrays.now.tails.now)))

pub returns-in_err-certify_over : goal.returns-in_err-certify_over
returns-in_err-certify_over c =
    let rest = rw c.of.ensures at c.in_ok-lengths_hold-2.ensures in
    call_tells_refusal (call c.args.arrays.now c.args.flows.now) c.in_ok-lengths_hold.ensures rest c.in_ok-instance.instance c.in_ok-instance.ensures.spells c.in_ok-instance.ensures.lawful _ c.in_err-certify_over.ensures _ c.from_residual-in_err-certify_over.ensures.1

pub returns : goal.returns
returns c =
    let rest = rw c.of.ensures at c.in_ok-lengths_hold-2.ensures in
    call_tells (call c.args.arrays.now c.args.flows.now) c.in_ok-lengths_hold.ensures rest c.in_ok-instance.instance c.in_ok-instance.ensures.spells c.in_ok-instance.ensures.lawful _ c.in_ok-certify_over.ensures
