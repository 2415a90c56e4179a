use Rattle.std.proofs.Common.{◌≡◌, ◌<◌, ◌≤◌, ◌-◌, length}
use Rattle.dimacs_network.specs.Arcs.{arc_at}
use Rattle.dimacs_decide.proofs.FewLemmas.{ArePassedOn}
use Rattle.dimacs_decide.proofs.few_labels.arcs_hold_from.Given as goal

-- the arcs of the node from `next` on are passed
abbrev pub invariant-loop-next : goal.invariant-loop-next
invariant-loop-next g l = record {
  within : l.next ≤ length (g.N.Network.list l.network);
  found : 0 < l.next → (arc_at (g.N.Network.list l.network) (l.next - 1)).tail ≡ l.node;
  passed : ArePassedOn (g.N.Network.list l.network) (g.C.DistanceClaim.claimed l.claim) l.node l.next;
}

abbrev pub decreases-loop-next : goal.decreases-loop-next
decreases-loop-next g l = l.next
