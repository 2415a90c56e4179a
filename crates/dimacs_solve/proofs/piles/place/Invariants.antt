use Rattle.std.proofs.Common.{◌≤◌, ◌<◌, ◌+◌, length}
use Rattle.std.specs.Prelude.{slice_index_or}
use Rattle.dimacs_solve.specs.declared.piles.Pile.{Pile}
use Rattle.dimacs_solve.proofs.piles.place.Given as goal

abbrev pub invariant-loop-at : goal.invariant-loop-at
invariant-loop-at g l = record {
  inside : l.at < length l.piles;
  reaches : (p : Pile g.row.D.Denot) → l.at + 1 < length l.piles → g.D.SearchDistance.value l.dist ≤ g.D.SearchDistance.value (slice_index_or l.piles l.at p).ceiling;
}

abbrev pub decreases-loop-at : goal.decreases-loop-at
decreases-loop-at g l = l.at
