use Rattle.std.proofs.Common.{◌≡◌, ℕ, ◌-◌, ◌^◌}
use Rattle.std.specs.Prelude.{pos}
use Rattle.dimacs_instance.specs.MinFlows.{supply_of}
use Rattle.dimacs_judging.specs.inside.Ranges.{IsOfSize}
use Rattle.dimacs_network.specs.{Skips.{Skips}, Tables.{value_of}}
use Rattle.dimacs_decide.proofs.FeasibleLemmas.{AreImbalancesBelow}
use Rattle.dimacs_decide.proofs.imbalance.imbalances.Given as goal

abbrev pub invariant-loop-id : goal.invariant-loop-id
invariant-loop-id g l = record {
  supplied : Skips (λ v. supply_of l.instance v ≡ pos 0) l.id l.end l.supplied;
  are : AreImbalancesBelow l.instance l.flow l.id (value_of l.table);
  sizes : (v : ℕ) → IsOfSize (2 ^ 99) (value_of l.table v);
}

abbrev pub decreases-loop-id : goal.decreases-loop-id
decreases-loop-id g l = l.end - l.id
