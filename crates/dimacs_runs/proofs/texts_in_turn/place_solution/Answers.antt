use Rattle.std.proofs.Common.{refl}
use Rattle.dimacs_claims.specs.{SolutionReading.{IsPlaced}, SolutionTexts.{GivesSolution}}
use Rattle.dimacs_runs.proofs.JudgingLemmas.{none_placed, one_placed}
use Rattle.dimacs_runs.specs.inside.Judgings.{text_of}
use Rattle.dimacs_records.specs.declared.kinds.TextKind.TheVariants as kinds
use Rattle.dimacs_runs.proofs.texts_in_turn.place_solution.Goals as goal

pub returns-in-Ok-clause-reads : goal.returns-in-Ok-clause-reads
returns-in-Ok-clause-reads g c = λ a coming.
    let read = c.in-Ok.ensures.reads a coming in
    one_placed (λ s placed. IsPlaced placed.value placed.value_line (g.E.Place.stands_for placed.place) s) (text_of kinds.Solution GivesSolution a) read.answer c.in-Ok.placed read.alike read.reads

pub returns-in-Err-clause-reads : goal.returns-in-Err-clause-reads
returns-in-Err-clause-reads g c = λ a coming.
    let read = c.in-Err.ensures.reads a coming in
    (_, _, refl, none_placed (λ s placed. IsPlaced placed.value placed.value_line (g.E.Place.stands_for placed.place) s) (text_of kinds.Solution GivesSolution a) read.answer c.in-Err.error read.alike read.reads, c.at_text.ensures)
