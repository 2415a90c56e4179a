use Rattle.std.proofs.Common.{ℕ}
use Rattle.dimacs_facts.specs.Walks.{AreWalks}
use Rattle.dimacs_facts.proofs.search.lighten.Given as goal

abbrev pub invariant-loop-node : goal.invariant-loop-node
invariant-loop-node g l = (s : ℕ) → AreWalks (g.N.Network.list l.network) s l.initial.walks → AreWalks (g.N.Network.list l.network) s l.walks
