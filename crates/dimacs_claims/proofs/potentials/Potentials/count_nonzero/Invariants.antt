use Rattle.std.proofs.Common.{◌≡◌, ◌≤◌, ◌-◌, length}
use Rattle.dimacs_claims.proofs.{NodeLists.{passing}, PotentialsLemmas.{nonzero_at}}
use Rattle.dimacs_claims.proofs.potentials.Potentials.count_nonzero.Given as goal

-- those so far were counted
abbrev pub invariant-loop-id : goal.invariant-loop-id
invariant-loop-id l = record {
  least : 1 ≤ l.id;
  within : l.id ≤ l.end;
  counted : l.count ≡ length (passing (nonzero_at l.self) (l.id - 1));
}

abbrev pub decreases-loop-id : goal.decreases-loop-id
decreases-loop-id l = l.end - l.id
