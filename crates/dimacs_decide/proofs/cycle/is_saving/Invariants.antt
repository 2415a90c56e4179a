use Rattle.std.proofs.Common.{◌≡◌, ℕ, ◌<◌, true}
use Rattle.dimacs_network.specs.Tables.{value_of}
use Rattle.dimacs_decide.specs.inside.Cycles.{IsWalked, ending_of, gain_after, node_after, residual_at}
use Rattle.dimacs_decide.proofs.cycle.is_saving.Given as goal

abbrev pub invariant-loop-j : goal.invariant-loop-j
invariant-loop-j g l = record {
  walked : IsWalked (g.N.Network.list l.network) l.flow l.cycle l.j;
  at : l.at ≡ node_after (g.N.Network.list l.network) l.cycle l.j;
  reached : (i : ℕ) → i < l.j → value_of l.reached (ending_of (g.N.Network.list l.network) (residual_at l.cycle i)) ≡ true;
  saved : l.saved ≡ gain_after (g.N.Network.list l.network) l.cycle l.j;
}
