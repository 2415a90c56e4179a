use Rattle.std.proofs.lemmas.Result.{IfOk-weaker}
use Rattle.dimacs_claims.proofs.SolutionLemmas.{placed_lawful, reads_placed}
use Rattle.dimacs_claims.proofs.solution.read_solution_into.Goals as goal

pub returns-clause-reads : goal.returns-clause-reads
returns-clause-reads g c = λ text coming. reads_placed (λ placed. placed.value) (λ placed. placed.value_line) (λ placed. g.P.Place.stands_for placed.place) text c.read_text.result (c.read_text.ensures.reads text coming)

pub returns-clause-lawful : goal.returns-clause-lawful
returns-clause-lawful g c =
    IfOk-weaker c.read_text.result _ _ (λ placed given. placed_lawful placed.value placed.value_line (g.P.Place.stands_for placed.place) given.0 given.1 given.2) c.read_text.ensures.spelled
