use Rattle.std.proofs.Common.{◌≡◌, ◌+◌, take, count_by}
use Rattle.dimacs_network.specs.Arcs.{joins}
use Rattle.dimacs_network.proofs.network.Network.find.Given as goal

-- the arcs with these ends that came before, and those still to count
abbrev pub invariant-loop-i : goal.invariant-loop-i
invariant-loop-i g l = l.left + count_by (joins l.tail l.head) (take l.i (g.Self.Network.list l.self)) ≡ l.k
