use Rattle.dimacs_arrays.specs.Spelled.{SpellsGraphArrays}
use Rattle.dimacs_c.specs.{ArrayTexts.{graph_text}, Calls.{handed}}
use Rattle.dimacs_c.proofs.ArrayLemmas.{text_answered}
use Rattle.dimacs_c.proofs.write_instance.dimacs_write_graph.Goals as goal

pub returns : goal.returns
returns c = text_answered graph_text (SpellsGraphArrays c.args.graph.now) tt c.graph_over-answer.result c.graph_over-answer.ensures c.hand_text.result (handed c.args.out.now c.hand_text.new.out c.hand_text.new.needed) c.hand_text.ensures
