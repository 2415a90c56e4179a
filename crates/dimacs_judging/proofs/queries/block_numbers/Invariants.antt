use Rattle.std.proofs.Common.{take}
use Rattle.dimacs_judging.specs.inside.QueryTests.{AreNumbers}
use Rattle.dimacs_judging.proofs.queries.block_numbers.Given as goal

-- each source of the blocks so far has its number
abbrev pub invariant-loop-i : goal.invariant-loop-i
invariant-loop-i l = AreNumbers (take l.i l.labels.blocks) l.numbers
