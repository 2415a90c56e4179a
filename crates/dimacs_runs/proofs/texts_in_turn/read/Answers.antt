use Rattle.dimacs_runs.proofs.texts_in_turn.read.Goals as goal

pub returns-in-Ok-clause-faultless : goal.returns-in-Ok-clause-faultless
returns-in-Ok-clause-faultless g c = λ has. (c.in-Ok.ensures.reads has.0 has.4).2 has.1 has.2 has.3 has.5
