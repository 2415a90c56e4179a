use Rattle.std.proofs.Common.{ℕ, ◌≤◌, length}
use Rattle.dimacs_facts.specs.Walks.{AreWalks}
use Rattle.dimacs_facts.proofs.search.lighten_from.Given as goal

-- the arcs from `next` on are left
abbrev pub invariant-loop-next : goal.invariant-loop-next
invariant-loop-next g l = record {
  within : l.next ≤ length (g.N.Network.list l.network);
  walks : (s : ℕ) → AreWalks (g.N.Network.list l.network) s l.initial.walks → AreWalks (g.N.Network.list l.network) s l.walks;
}

abbrev pub decreases-loop-next : goal.decreases-loop-next
decreases-loop-next g l = l.next
