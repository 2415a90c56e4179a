use Rattle.std.proofs.Common.{List, [], ◌∷◌, ℕ, length, subst}
use Rattle.dimacs_instance.specs.MinFlows.{MinValue, IsMin}
use Rattle.dimacs_judging.specs.declared.verdict.Verdict.{Verdict}
use Rattle.dimacs_arrays.specs.{declared.error.Array.TheVariants.{Inside}, declared.lengths.ArrayLength.{ArrayLength}}
use Rattle.dimacs_arrays.specs.{declared.min.MinArrays.{MinArrays}, Answers.{length_of}, ByNode.{marked}}
use Rattle.dimacs_arrays.specs.MinArrays.{JudgesInfeasible, min_lengths, min_limits, min_spelled}
use Rattle.dimacs_arrays.proofs.AnswerLemmas.{Call, all_fit, call_tells, call_tells_limit, call_tells_refusal}
use Rattle.dimacs_arrays.proofs.MinLemmas.{min_clear, min_one_way}
use Rattle.dimacs_arrays.proofs.judge_infeasible.judge_infeasible_arrays.Goals as goal

abbrev claim_lengths : MinArrays → List ℕ → List ArrayLength
claim_lengths a inside = length_of Inside (length inside) a.nodes ∷ []

abbrev call : MinArrays → List ℕ → Call Verdict MinValue
call a inside = record { lengths = min_lengths a; claim_lengths = claim_lengths a inside; limits = min_limits a; spelled = min_spelled a; lawful = IsMin; answers = λ i. JudgesInfeasible i (marked inside) }

pub returns-in_err-instance : goal.returns-in_err-instance
returns-in_err-instance c =
    let rest = rw c.of.ensures at c.in_ok-lengths_hold-2.ensures in
    call_tells_limit (call c.args.arrays.now c.args.inside.now) c.in_ok-lengths_hold.ensures rest (min_one_way c.args.arrays.now) (min_clear c.args.arrays.now) _ c.in_err-instance.ensures _ c.from_residual-in_err-instance.ensures.1

pub judge_over-requires : goal.judge_over-requires
judge_over-requires c =
    let rest = rw c.of.ensures at c.in_ok-lengths_hold-2.ensures in
    rw c.in_ok-instance.ensures (all_fit (claim_lengths c.args.arrays.now c.args.inside.now) rest).0

pub returns-in_err-judge_over : goal.returns-in_err-judge_over
returns-in_err-judge_over c =
    let rest = rw c.of.ensures at c.in_ok-lengths_hold-2.ensures in
    let law : IsMin c.in_ok-instance.instance = subst (λ (m : MinValue). IsMin m) c.instance-2.view_is c.instance-2.invariant in
    call_tells_refusal (call c.args.arrays.now c.args.inside.now) c.in_ok-lengths_hold.ensures rest c.in_ok-instance.instance c.in_ok-instance.ensures law _ c.in_err-judge_over.ensures _ c.from_residual-in_err-judge_over.ensures.1

pub returns : goal.returns
returns c =
    let rest = rw c.of.ensures at c.in_ok-lengths_hold-2.ensures in
    let law : IsMin c.in_ok-instance.instance = subst (λ (m : MinValue). IsMin m) c.instance-2.view_is c.instance-2.invariant in
    call_tells (call c.args.arrays.now c.args.inside.now) c.in_ok-lengths_hold.ensures rest c.in_ok-instance.instance c.in_ok-instance.ensures law _ c.in_ok-judge_over.ensures
