use Rattle.dimacs_arrays.specs.Spelled.{SpellsPotentialsArray}
use Rattle.dimacs_c.specs.{ArrayTexts.{potentials_text}, Calls.{handed}}
use Rattle.dimacs_c.proofs.ArrayLemmas.{text_answered}
use Rattle.dimacs_c.proofs.potentials.dimacs_write_potentials.Goals as goal

pub returns : goal.returns
returns c = text_answered potentials_text (SpellsPotentialsArray c.args.potentials.now) tt c.potentials_over-answer.result c.potentials_over-answer.ensures c.hand_text.result (handed c.args.out.now c.hand_text.new.out c.hand_text.new.needed) c.hand_text.ensures
