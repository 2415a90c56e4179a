use Rattle.std.proofs.Common.{ℕ, ◌≡◌, ◌+◌, ◌<◌, length, map, take}
use Rattle.dimacs_claims.specs.declared.place.Entry.{Entry}
use Rattle.dimacs_judging.specs.Claims.{entry_at}
use Rattle.dimacs_network.specs.Arcs.{arc_at}
use Rattle.dimacs_decide.specs.Entries.{IsEntryOf}
use Rattle.dimacs_decide.proofs.solution.entries_for.Given as goal

abbrev pub invariant-loop-i : goal.invariant-loop-i
invariant-loop-i g l = record {
  one_each : length l.entries.items ≡ l.i;
  in_order : (k : ℕ) → k < l.i → IsEntryOf (arc_at (g.N.Network.list l.network) k) (k + 2) (entry_at l.entries.items k);
  flows : map (λ (e : Entry). e.flow) l.entries.items ≡ take l.i l.flow;
}
