use Rattle.std.proofs.Common.{◌≡◌, length}
use Rattle.dimacs_decide.specs.Predecessors.{pred_by_node}
use Rattle.dimacs_decide.proofs.TightTailLemmas.{AreTightBelow}
use Rattle.dimacs_decide.proofs.tight_tails.tails_of_tight_arcs.Given as goal

-- the arcs before i
abbrev pub invariant-loop-i : goal.invariant-loop-i
invariant-loop-i g l = record {
  each : length l.tails.items ≡ g.N.Network.node_count l.network;
  tight : AreTightBelow (g.N.Network.list l.network) (g.C.DistanceClaim.claimed l.claim) (pred_by_node l.tails.items) l.i;
}
