use Rattle.dimacs_arrays.specs.MinArrays.{JudgesMinArrays}
use Rattle.dimacs_c.specs.Calls.{handed}
use Rattle.dimacs_c.proofs.ArrayLemmas.{line_answered}
use Rattle.dimacs_c.proofs.min.dimacs_judge_min_arrays.Goals as goal

pub returns : goal.returns
returns c = line_answered (JudgesMinArrays c.args.instance.now c.args.flows.now c.args.potentials.now) tt c.judge_min_arrays-answer.result c.judge_min_arrays-answer.ensures c.hand_judged.result (handed c.args.out.now c.hand_judged.new.out c.hand_judged.new.needed) c.hand_judged.ensures
