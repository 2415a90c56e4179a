use Rattle.std.proofs.Common.{◌≡◌, ◌≤◌, ◌-◌}
use Rattle.std.specs.Prelude.{pos}
use Rattle.dimacs_instance.specs.MinFlows.{positive_part, negative_part}
use Rattle.dimacs_instance.proofs.MinSupplies.{sum_below}
use Rattle.dimacs_instance.proofs.min.MinInstance.supply_sums.Given as goal

-- the supplies of the IDs so far are added
abbrev pub invariant-loop-id : goal.invariant-loop-id
invariant-loop-id g l = record {
  within : l.id ≤ l.end;
  supplied : l.sums.supplied ≡ pos (sum_below positive_part l.self l.id);
  demanded : l.sums.demanded ≡ pos (sum_below negative_part l.self l.id);
}

abbrev pub decreases-loop-id : goal.decreases-loop-id
decreases-loop-id g l = l.end - l.id
