use Rattle.std.proofs.Common.{List}
use Rattle.dimacs_claims.specs.declared.place.Entry.{Entry}
use Rattle.dimacs_solve.specs.{inside.Raised.{AreDealtUpTo}, inside.Rests.{AddUp}}
use Rattle.dimacs_solve.proofs.raise.raise_all.Given as goal

-- the arcs so far are raised
abbrev pub invariant-loop-place : goal.invariant-loop-place
invariant-loop-place g l = record {
  dealt : AreDealtUpTo l.arcs l.order l.place-index l.rests l.amounts;
  sums : (entries : List Entry) → AddUp l.arcs entries l.initial.rests l.initial.amounts → AddUp l.arcs entries l.rests l.amounts;
}
