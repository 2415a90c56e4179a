use Rattle.std.proofs.Common.{take}
use Rattle.dimacs_solve.specs.inside.Frontiers.{IsSplit}
use Rattle.dimacs_solve.proofs.piles.split.Given as goal

abbrev pub invariant-loop-walk : goal.invariant-loop-walk
invariant-loop-walk g l = IsSplit g.D.SearchDistance.value (g.D.SearchDistance.value l.middle) (take l.walk-index l.walks) l.closer.items l.farther.items
