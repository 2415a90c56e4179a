use Rattle.std.proofs.Common.{◌≤◌, take, count_by}
use Rattle.dimacs_network.specs.Arcs.{joins}
use Rattle.dimacs_judging.proofs.places.FlowPlaces.arcs_below.Given as goal

-- at least k arcs were found
abbrev pub invariant-loop-k : goal.invariant-loop-k
invariant-loop-k g l = l.k ≤ count_by (joins l.entry.tail l.entry.head) (take l.end l.self.arcs)
