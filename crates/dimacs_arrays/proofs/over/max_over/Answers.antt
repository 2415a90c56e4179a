use Rattle.std.proofs.Common.{subst}
use Rattle.dimacs_instance.specs.MaxFlows.{IsMax}
use Rattle.dimacs_arrays.specs.{MaxArrays.{max_lengths, max_limits, max_spelled}, Spelled.{IsSpelled}}
use Rattle.dimacs_arrays.proofs.{AnswerLemmas.{tells_limit}, MaxLemmas.{max_clear, max_one_way}}
use Rattle.dimacs_arrays.proofs.over.max_over.Goals as goal

pub returns-in_err-instance : goal.returns-in_err-instance
returns-in_err-instance c =
    let a = c.args.arrays.now in
    tells_limit (max_lengths a) (max_limits a) (IsMax (max_spelled a)) (IsSpelled (max_spelled a)) c.in_ok-lengths_hold.ensures (max_spelled a) _ (max_one_way a) (max_clear a) c.in_err-instance.ensures.spells _ c.from_residual-in_err-instance.ensures.1

pub returns : goal.returns
returns c = (c.in_ok-lengths_hold.ensures, subst IsMax c.in_ok-instance.ensures.spells c.in_ok-instance.ensures.lawful, c.in_ok-instance.ensures.spells)
