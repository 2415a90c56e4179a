use Rattle.std.proofs.Common.{◌≡◌}
use Rattle.dimacs_judging.specs.Cuts.{members}
use Rattle.dimacs_decide.specs.inside.Imbalances.{HasEnds}
use Rattle.dimacs_decide.proofs.feasible.ends_of_arcs.Given as goal

abbrev pub invariant-loop-i : goal.invariant-loop-i
invariant-loop-i g l = record {
  nodes : l.set.nodes ≡ g.N.Network.node_count l.network;
  ends : HasEnds (g.N.Network.list l.network) l.i (members l.set);
}
