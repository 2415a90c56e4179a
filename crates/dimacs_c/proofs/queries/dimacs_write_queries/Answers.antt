use Rattle.dimacs_arrays.specs.PathsSpelled.{SpellsQueryArrays}
use Rattle.dimacs_c.specs.{ArrayTexts.{queries_text}, Calls.{handed}, Kinds.{query_kind}}
use Rattle.dimacs_c.proofs.ArrayLemmas.{text_answered}
use Rattle.dimacs_c.proofs.queries.dimacs_write_queries.Goals as goal

pub returns : goal.returns
returns c = text_answered queries_text (SpellsQueryArrays (query_kind c.args.pairs) c.args.froms.now c.args.tos.now) tt c.queries_over-answer.result (rw c.queries_of.ensures at c.queries_over-answer.ensures) c.hand_text.result (handed c.args.out.now c.hand_text.new.out c.hand_text.new.needed) c.hand_text.ensures
