use Rattle.dimacs_arrays.specs.MinArrays.{JudgesInfeasibleArrays}
use Rattle.dimacs_c.specs.Calls.{handed}
use Rattle.dimacs_c.proofs.ArrayLemmas.{line_answered}
use Rattle.dimacs_c.proofs.infeasible.dimacs_judge_infeasible_arrays.Goals as goal

pub returns : goal.returns
returns c = line_answered (JudgesInfeasibleArrays c.args.instance.now c.args.inside.now) tt c.judge_infeasible_arrays-answer.result c.judge_infeasible_arrays-answer.ensures c.hand_judged.result (handed c.args.out.now c.hand_judged.new.out c.hand_judged.new.needed) c.hand_judged.ensures
