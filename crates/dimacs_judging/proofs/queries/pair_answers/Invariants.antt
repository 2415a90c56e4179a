use Rattle.std.proofs.Common.{◌≡◌, map, take}
use Rattle.dimacs_judging.specs.Answers.{answer_to}
use Rattle.dimacs_judging.proofs.queries.pair_answers.Given as goal

abbrev pub invariant-loop-pair : goal.invariant-loop-pair
invariant-loop-pair l = l.answers.items ≡ map (answer_to l.labels.blocks) (take l.pair-index l.pairs)
