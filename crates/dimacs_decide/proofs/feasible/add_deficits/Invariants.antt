use Rattle.std.proofs.Common.{◌≡◌, ◌≤◌, ◌-◌, ℕ, true}
use Rattle.dimacs_network.specs.Tables.{value_of}
use Rattle.dimacs_judging.specs.Cuts.{members}
use Rattle.dimacs_decide.specs.inside.Imbalances.{HasDeficits}
use Rattle.dimacs_decide.proofs.feasible.add_deficits.Given as goal

abbrev pub invariant-loop-id : goal.invariant-loop-id
invariant-loop-id l = record {
  low : 1 ≤ l.id;
  within : l.id ≤ l.end;
  nodes : l.set.nodes ≡ l.nodes;
  stay : (v : ℕ) → members l.initial.set v ≡ true → members l.set v ≡ true;
  deficits : HasDeficits l.id (value_of l.imbalance) (members l.set);
}

abbrev pub decreases-loop-id : goal.decreases-loop-id
decreases-loop-id l = l.end - l.id
