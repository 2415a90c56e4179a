use Rattle.dimacs_arrays.specs.PathsSpelled.{SpellsDistancesArray}
use Rattle.dimacs_c.specs.{ArrayTexts.{distances_text}, Calls.{handed}}
use Rattle.dimacs_c.proofs.ArrayLemmas.{text_answered}
use Rattle.dimacs_c.proofs.distances.dimacs_write_distances.Goals as goal

pub returns : goal.returns
returns c = text_answered distances_text (SpellsDistancesArray c.args.source c.args.distances.now) tt c.distances_over-answer.result c.distances_over-answer.ensures c.hand_text.result (handed c.args.out.now c.hand_text.new.out c.hand_text.new.needed) c.hand_text.ensures
