use Rattle.std.proofs.Common.{◌≡◌, length}
use Rattle.dimacs_judging.specs.inside.ArcChains.{AreChained}
use Rattle.dimacs_judging.proofs.arc_chains.ArcChains.extend_to.Given as goal

-- the arcs before i are chained
abbrev pub invariant-loop-i : goal.invariant-loop-i
invariant-loop-i g l = record {
  so_many : length l.self.before.items ≡ l.i;
  chained : AreChained (g.N.Network.list l.network) l.self;
}
