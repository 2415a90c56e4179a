use Rattle.std.proofs.Common.{[], ℕ, refl}
use Rattle.dimacs_instance.specs.MaxFlows.{MaxValue, IsMax}
use Rattle.dimacs_arrays.specs.{declared.max.MaxArrays.{MaxArrays}, declared.solve_max.MaxSolved.{MaxSolved}}
use Rattle.dimacs_arrays.specs.MaxArrays.{SolvesMaxFlow, max_lengths, max_limits, max_spelled}
use Rattle.dimacs_arrays.proofs.AnswerLemmas.{Call, call_tells, call_tells_limit, call_tells_refusal}
use Rattle.dimacs_arrays.proofs.MaxLemmas.{max_clear, max_one_way}
use Rattle.dimacs_arrays.proofs.solve_max.solve_max_arrays.Goals as goal

abbrev call : MaxArrays → ℕ → Call MaxSolved MaxValue
call a limit = record { lengths = max_lengths a; claim_lengths = []; limits = max_limits a; spelled = max_spelled a; lawful = IsMax; answers = λ i. SolvesMaxFlow i limit }

pub returns-in_err-instance : goal.returns-in_err-instance
returns-in_err-instance c =
    call_tells_limit (call c.args.arrays.now c.args.limit) c.in_ok-lengths_hold.ensures refl (max_one_way c.args.arrays.now) (max_clear c.args.arrays.now) _ c.in_err-instance.ensures.spells _ c.from_residual-in_err-instance.ensures.1

pub returns-in_err-solve_over : goal.returns-in_err-solve_over
returns-in_err-solve_over c =
    call_tells_refusal (call c.args.arrays.now c.args.limit) c.in_ok-lengths_hold.ensures refl c.in_ok-instance.instance c.in_ok-instance.ensures.spells c.in_ok-instance.ensures.lawful _ c.in_err-solve_over.ensures _ c.from_residual-in_err-solve_over.ensures.1

pub returns : goal.returns
returns c =
    call_tells (call c.args.arrays.now c.args.limit) c.in_ok-lengths_hold.ensures refl c.in_ok-instance.instance c.in_ok-instance.ensures.spells c.in_ok-instance.ensures.lawful _ c.in_ok-solve_over.ensures
