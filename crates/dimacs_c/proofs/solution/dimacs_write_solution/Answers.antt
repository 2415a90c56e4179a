use Rattle.std.proofs.{Common.{w64}, lemmas.Int.{to_z-of_z}}
use Rattle.dimacs_arrays.specs.SolutionArrays.{MakesSolutionArrays}
use Rattle.dimacs_c.specs.{ArrayTexts.{solution_text}, Calls.{handed}}
use Rattle.dimacs_c.proofs.ArrayLemmas.{text_answered}
use Rattle.dimacs_c.proofs.solution.dimacs_write_solution.Goals as goal

pub returns : goal.returns
returns c =
    text_answered solution_text (MakesSolutionArrays c.args.value (record { nodes = c.args.nodes; tails = c.args.tails; heads = c.args.heads }) c.args.flows.now) tt
    c.solution_of_arrays-answer.result (rw (to_z-of_z w64 c.args.value c.ranges.value) at c.solution_of_arrays-answer.ensures) c.hand_text.result (handed c.args.out.now c.hand_text.new.out c.hand_text.new.needed) c.hand_text.ensures
