use Rattle.std.proofs.Common.{◌≡◌, ◌<◌, ◌≤◌, ◌-◌, length}
use Rattle.dimacs_network.specs.{declared.network.ArcView.{ArcView}, Arcs.{arc_at}}
use Rattle.dimacs_judging.specs.{inside.Leaving.{IsRelaxedBy}, LightestArcs.{arcs_in}}
use Rattle.dimacs_judging.specs.inside.NodeLabels.{IsLabelled, entries}
use Rattle.dimacs_judging.proofs.LeavingLemmas.{AreRelaxedOn}
use Rattle.dimacs_judging.proofs.leaving.relax_node.Given as goal

-- the arcs of the node at the places from `next` on are relaxed
abbrev pub invariant-loop-next : goal.invariant-loop-next
invariant-loop-next g l = record {
  labelled : IsLabelled g.D.Distance.value (g.N.Network.list l.network) l.block l.node_labels;
  keeps_relaxed : (a : ArcView) → IsRelaxedBy l.block (entries g.D.Distance.value l.fn.node_labels) a → IsRelaxedBy l.block (entries g.D.Distance.value l.node_labels) a;
  within : l.next ≤ length l.lightest.order.items;
  found : 0 < l.next → (arc_at (arcs_in (g.N.Network.list l.network) l.lightest.order.items) (l.next - 1)).tail ≡ l.node;
  relaxed : AreRelaxedOn (g.N.Network.list l.network) l.lightest.order.items l.block (entries g.D.Distance.value l.node_labels) l.node l.next;
}

abbrev pub decreases-loop-next : goal.decreases-loop-next
decreases-loop-next g l = l.next
