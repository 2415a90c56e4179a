use Rattle.dimacs_arrays.specs.GraphArrays.{JudgesPathsArrays}
use Rattle.dimacs_c.specs.Calls.{handed}
use Rattle.dimacs_c.proofs.ArrayLemmas.{line_answered}
use Rattle.dimacs_c.proofs.paths.dimacs_judge_paths_arrays.Goals as goal

pub returns : goal.returns
returns c = line_answered (JudgesPathsArrays c.args.graph.now c.args.source c.args.distances.now c.args.predecessors.now) tt c.judge_paths_arrays-answer.result c.judge_paths_arrays-answer.ensures c.hand_judged.result (handed c.args.out.now c.hand_judged.new.out c.hand_judged.new.needed) c.hand_judged.ensures
