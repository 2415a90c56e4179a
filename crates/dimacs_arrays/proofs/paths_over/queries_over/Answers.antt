use Rattle.std.proofs.Common.{◌≡◌, [], ◌∷◌, None}
use Rattle.dimacs_instance.specs.QueryTexts.{AreLawful}
use Rattle.dimacs_arrays.specs.{declared.error.ArrayError.TheVariants.{Limit}, Answers.{first_misfit}}
use Rattle.dimacs_arrays.specs.PathsSpelled.{AreAsked, queries_spelled, query_lengths, query_row}
use Rattle.dimacs_arrays.proofs.AnswerLemmas.{tells_limit}
use Rattle.dimacs_arrays.proofs.PathsOverLemmas.{all_clear, in_range_lawful, lawful_in_range, queries_one_way}
use Rattle.dimacs_arrays.proofs.paths_over.queries_over.Goals as goal

pub returns-in_err-ids_hold : goal.returns-in_err-ids_hold
returns-in_err-ids_hold c =
    let kind = c.args.kind in
    let froms = c.args.froms.now in
    let tos = c.args.tos.now in
    let fit : first_misfit (query_lengths kind froms tos) ≡ None = rw (c.of.ensures, c.of-2.ensures, c.min.ensures, c.tos_wanted.ensures) at c.in_ok-lengths_hold.ensures in
    let limit = c.in_err-ids_hold.field-0.0 in
    tells_limit (query_lengths kind froms tos) (query_row froms tos ∷ []) (AreLawful (queries_spelled kind froms tos)) (AreAsked (queries_spelled kind froms tos)) fit (queries_spelled kind froms tos) (Limit limit.place limit.reason)
    (queries_one_way froms tos) (λ lawful. all_clear froms tos (lawful_in_range froms tos kind fit lawful)) c.in_err-ids_hold.ensures.first_fault _ c.from_residual-in_err-ids_hold.ensures.1

pub returns : goal.returns
returns c =
    let kind = c.args.kind in
    let froms = c.args.froms.now in
    let tos = c.args.tos.now in
    let fit : first_misfit (query_lengths kind froms tos) ≡ None = rw (c.of.ensures, c.of-2.ensures, c.min.ensures, c.tos_wanted.ensures) at c.in_ok-lengths_hold.ensures in
    (fit, in_range_lawful froms tos kind fit c.in_ok-ids_hold.ensures.in_range, c.in_ok-queries_of.ensures)
