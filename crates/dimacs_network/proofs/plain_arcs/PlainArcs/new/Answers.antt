use Rattle.std.proofs.Common.{refl}
use Rattle.dimacs_network.proofs.KeptLemmas.{kept_none}
use Rattle.dimacs_network.proofs.plain_arcs.PlainArcs.new.Goals as goal

pub returns : goal.returns
returns g c = rw (c.new.ensures.items, c.new-2.ensures, kept_none g.A.StoredArc.arc_of) refl
