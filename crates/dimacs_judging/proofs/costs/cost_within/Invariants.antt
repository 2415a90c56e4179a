use Rattle.std.proofs.Common.{◌≡◌, take}
use Rattle.dimacs_judging.specs.{Flows.{cost}, FlowTests.{cost_row}, Tests.{ClearBelow}}
use Rattle.dimacs_records.specs.Ranges.{IsWide}
use Rattle.dimacs_judging.proofs.costs.cost_within.Given as goal

abbrev pub invariant-loop-i : goal.invariant-loop-i
invariant-loop-i g l = record {
  value : l.sum ≡ cost (take l.i (g.N.Network.list l.network)) (take l.i l.flow);
  wide : IsWide l.sum;
  clear : ClearBelow (cost_row (g.N.Network.list l.network) l.flow) l.i;
}
