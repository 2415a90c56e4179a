use Rattle.dimacs_arrays.specs.Spelled.{SpellsMaxArrays}
use Rattle.dimacs_c.specs.{ArrayTexts.{max_text}, Calls.{handed}}
use Rattle.dimacs_c.proofs.ArrayLemmas.{text_answered}
use Rattle.dimacs_c.proofs.write_instance.dimacs_write_max.Goals as goal

pub returns : goal.returns
returns c = text_answered max_text (SpellsMaxArrays c.args.instance.now) tt c.max_over-answer.result c.max_over-answer.ensures c.hand_text.result (handed c.args.out.now c.hand_text.new.out c.hand_text.new.needed) c.hand_text.ensures
