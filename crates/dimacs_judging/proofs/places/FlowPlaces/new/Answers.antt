use Rattle.std.proofs.Common.{rules}
use Rattle.dimacs_judging.proofs.PlaceLemmas.{none_placed}
use Rattle.dimacs_judging.proofs.places.FlowPlaces.new.Goals as goal

pub returns-clause-empty : goal.returns-clause-empty
returns-clause-empty g c = none_placed _ c.arcs-arcs.result _ _ c.arcs-arcs.ensures c.in_ok-zero.ensures (search rules)
