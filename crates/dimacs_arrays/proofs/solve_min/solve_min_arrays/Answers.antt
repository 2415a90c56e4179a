use Rattle.std.proofs.Common.{[], ℕ, refl, subst}
use Rattle.dimacs_instance.specs.MinFlows.{MinValue, IsMin}
use Rattle.dimacs_arrays.specs.{declared.min.MinArrays.{MinArrays}, declared.solve_min.MinSolved.{MinSolved}}
use Rattle.dimacs_arrays.specs.MinArrays.{SolvesMinFlow, min_lengths, min_limits, min_spelled}
use Rattle.dimacs_arrays.proofs.AnswerLemmas.{Call, call_tells, call_tells_limit, call_tells_refusal}
use Rattle.dimacs_arrays.proofs.MinLemmas.{min_clear, min_one_way}
use Rattle.dimacs_arrays.proofs.solve_min.solve_min_arrays.Goals as goal

abbrev call : MinArrays → ℕ → Call MinSolved MinValue
call a limit = record { lengths = min_lengths a; claim_lengths = []; limits = min_limits a; spelled = min_spelled a; lawful = IsMin; answers = λ i. SolvesMinFlow i limit }

pub returns-in_err-instance : goal.returns-in_err-instance
returns-in_err-instance c =
    call_tells_limit (call c.args.arrays.now c.args.limit) c.in_ok-lengths_hold.ensures refl (min_one_way c.args.arrays.now) (min_clear c.args.arrays.now) _ c.in_err-instance.ensures _ c.from_residual-in_err-instance.ensures.1

pub returns-in_err-solve_over : goal.returns-in_err-solve_over
returns-in_err-solve_over c =
    let law : IsMin c.in_ok-instance.instance = subst (λ (m : MinValue). IsMin m) c.instance-2.view_is c.instance-2.invariant in
    call_tells_refusal (call c.args.arrays.now c.args.limit) c.in_ok-lengths_hold.ensures refl c.in_ok-instance.instance c.in_ok-instance.ensures law _ c.in_err-solve_over.ensures _ c.from_residual-in_err-solve_over.ensures.1

pub returns : goal.returns
returns c =
    let law : IsMin c.in_ok-instance.instance = subst (λ (m : MinValue). IsMin m) c.instance-2.view_is c.instance-2.invariant in
    call_tells (call c.args.arrays.now c.args.limit) c.in_ok-lengths_hold.ensures refl c.in_ok-instance.instance c.in_ok-instance.ensures law _ c.in_ok-solve_over.ensures
