use Rattle.dimacs_arrays.specs.PathsSpelled.{SpellsLabelArrays}
use Rattle.dimacs_c.specs.{ArrayTexts.{labels_text}, Calls.{handed}}
use Rattle.dimacs_c.proofs.ArrayLemmas.{text_answered}
use Rattle.dimacs_c.proofs.labels.dimacs_write_labels.Goals as goal

pub returns : goal.returns
returns c = text_answered labels_text (SpellsLabelArrays c.args.source c.args.distances.now c.args.predecessors.now) tt c.labels_over-answer.result c.labels_over-answer.ensures c.hand_text.result (handed c.args.out.now c.hand_text.new.out c.hand_text.new.needed) c.hand_text.ensures
