use Rattle.dimacs_arrays.specs.Spelled.{SpellsMinArrays}
use Rattle.dimacs_c.specs.{ArrayTexts.{min_text}, Calls.{handed}}
use Rattle.dimacs_c.proofs.ArrayLemmas.{text_answered}
use Rattle.dimacs_c.proofs.write_instance.dimacs_write_min.Goals as goal

pub returns : goal.returns
returns c = text_answered min_text (SpellsMinArrays c.args.instance.now) tt c.min_over-answer.result c.min_over-answer.ensures c.hand_text.result (handed c.args.out.now c.hand_text.new.out c.hand_text.new.needed) c.hand_text.ensures
