use Rattle.std.proofs.Common.{subst}
use Rattle.dimacs_instance.specs.MinFlows.{IsMin}
use Rattle.dimacs_arrays.specs.{MinArrays.{min_lengths, min_limits, min_spelled}, Spelled.{IsSpelled}}
use Rattle.dimacs_arrays.proofs.{AnswerLemmas.{tells_limit}, MinLemmas.{min_clear, min_one_way}}
use Rattle.dimacs_arrays.proofs.over.min_over.Goals as goal

pub returns-in_err-instance : goal.returns-in_err-instance
returns-in_err-instance c =
    let a = c.args.arrays.now in
    tells_limit (min_lengths a) (min_limits a) (IsMin (min_spelled a)) (IsSpelled (min_spelled a)) c.in_ok-lengths_hold.ensures (min_spelled a) _ (min_one_way a) (min_clear a) c.in_err-instance.ensures _ c.from_residual-in_err-instance.ensures.1

pub returns : goal.returns
returns c = (c.in_ok-lengths_hold.ensures, subst IsMin c.in_ok-instance.ensures c.network-lawful.ensures.lawful, c.in_ok-instance.ensures)
