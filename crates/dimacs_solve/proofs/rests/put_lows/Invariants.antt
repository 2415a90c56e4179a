use Rattle.std.proofs.Common.{[]}
use Rattle.dimacs_solve.specs.inside.Rests.{AddUp, AreLows, AreRests}
use Rattle.dimacs_solve.proofs.rests.put_lows.Given as goal

abbrev pub invariant-loop-arc : goal.invariant-loop-arc
invariant-loop-arc g l = record {
  rests : AreRests l.arcs l.arc l.rests;
  lows : AreLows l.arcs l.arc l.amounts;
  sums : AddUp l.arcs [] l.rests l.amounts;
}
