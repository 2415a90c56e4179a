use Rattle.std.proofs.Common.{◌≤◌, ◌-◌}
use Rattle.dimacs_network.specs.Tables.{value_of}
use Rattle.dimacs_decide.proofs.FeasibleLemmas.{AreSignsBelow}
use Rattle.dimacs_decide.proofs.imbalance.imbalance_signs.Given as goal

abbrev pub invariant-loop-id : goal.invariant-loop-id
invariant-loop-id l = record {
  low : 1 ≤ l.id;
  within : l.id ≤ l.end;
  are : AreSignsBelow l.nodes l.id (value_of l.imbalance) l.signs;
}

abbrev pub decreases-loop-id : goal.decreases-loop-id
decreases-loop-id l = l.end - l.id
