use Rattle.std.proofs.Common.{◌≡◌, take}
use Rattle.dimacs_judging.specs.Places.{ArePlaced}
use Rattle.dimacs_judging.proofs.entries.places_of.Given as goal

-- the entries so far are put
abbrev pub invariant-loop-entry : goal.invariant-loop-entry
invariant-loop-entry g l = record {
  network : l.places.arcs ≡ g.N.Network.list l.network;
  placed : ArePlaced l.places (take l.entry-index l.entries);
}
