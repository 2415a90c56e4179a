use Rattle.std.proofs.Common.{◌≡◌, ◌<◌, ◌≤◌, ◌-◌, length}
use Rattle.dimacs_network.specs.{declared.adjacency_lists.Side.TheVariants.{Tail}, AdjacencyLists.{end_at}}
use Rattle.dimacs_judging.specs.inside.ArcChains.{by_chain}
use Rattle.dimacs_judging.proofs.ArcChainLemmas.{NoneFrom}
use Rattle.dimacs_judging.proofs.arc_chains.ArcChains.is_first.Given as goal

-- `before` is in the arc's chain, and no arc from it on and before this one has the ends of the entry
abbrev pub invariant-loop : goal.invariant-loop
invariant-loop g l = record {
  within : l.before ≤ l.arc;
  found : 0 < l.before → end_at Tail (by_chain l.self (g.N.Network.list l.network)) (l.before - 1) ≡ end_at Tail (by_chain l.self (g.N.Network.list l.network)) l.arc;
  none : NoneFrom l.self.step (length l.self.last.items) (g.N.Network.list l.network) l.entry.tail l.entry.head l.arc l.before;
}
