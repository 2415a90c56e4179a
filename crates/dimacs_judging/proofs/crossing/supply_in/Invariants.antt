use Rattle.std.proofs.Common.{◌≤◌, ◌-◌}
use Rattle.dimacs_judging.proofs.CrossLemmas.{IsSupplyOf}
use Rattle.dimacs_judging.specs.Cuts.{members}
use Rattle.dimacs_instance.specs.MinFlows.{supply_of}
use Rattle.dimacs_judging.proofs.crossing.supply_in.Given as goal

-- the supply of the nodes so far
abbrev pub invariant-loop-v : goal.invariant-loop-v
invariant-loop-v g l = record {
  low : 1 ≤ l.v;
  within : l.v ≤ l.end;
  sum : IsSupplyOf (supply_of l.instance) (members l.set) l.v l.sum;
}

abbrev pub decreases-loop-v : goal.decreases-loop-v
decreases-loop-v g l = l.end - l.v
