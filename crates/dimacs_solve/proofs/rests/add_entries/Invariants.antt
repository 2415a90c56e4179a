use Rattle.std.proofs.Common.{◌+◌, List, [], length, take, ℤ}
use Rattle.dimacs_judging.specs.Tests.{ClearBelow}
use Rattle.dimacs_solve.specs.{Spread.{unknown_row}, inside.Rests.{AddUp, AreRests}}
use Rattle.dimacs_solve.proofs.rests.add_entries.Given as goal

-- the entries so far have arcs, and are added to the rests
abbrev pub invariant-loop-entry : goal.invariant-loop-entry
invariant-loop-entry g l = record {
  clear : ClearBelow (unknown_row l.arcs l.entries) l.entry-index;
  rests : AreRests l.arcs (length l.arcs + l.entry-index) l.rests;
  sums : (x : List ℤ) → AddUp l.arcs [] l.initial.rests x → AddUp l.arcs (take l.entry-index l.entries) l.rests x;
}
