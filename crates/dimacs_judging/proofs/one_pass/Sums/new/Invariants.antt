use Rattle.std.proofs.Common.{◌≤◌, ◌-◌}
use Rattle.dimacs_judging.proofs.OnePass.{HavePotentials}
use Rattle.dimacs_judging.proofs.one_pass.Sums.new.Given as goal

abbrev pub invariant-loop-v : goal.invariant-loop-v
invariant-loop-v g l = record {
  low : 1 ≤ l.v;
  have : HavePotentials (g.P.HasPotentials.potential l.potentials) l.v (g.T.NodeStates.state l.states);
}

abbrev pub decreases-loop-v : goal.decreases-loop-v
decreases-loop-v g l = l.end - l.v
