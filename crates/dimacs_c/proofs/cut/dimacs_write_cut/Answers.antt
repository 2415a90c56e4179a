use Rattle.dimacs_arrays.specs.Spelled.{SpellsCutArray}
use Rattle.dimacs_c.specs.{ArrayTexts.{cut_text}, Calls.{handed}}
use Rattle.dimacs_c.proofs.ArrayLemmas.{text_answered}
use Rattle.dimacs_c.proofs.cut.dimacs_write_cut.Goals as goal

pub returns : goal.returns
returns c = text_answered cut_text (SpellsCutArray c.args.inside.now) tt c.cut_over-answer.result c.cut_over-answer.ensures c.hand_text.result (handed c.args.out.now c.hand_text.new.out c.hand_text.new.needed) c.hand_text.ensures
