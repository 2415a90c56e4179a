use Rattle.dimacs_judging.specs.inside.NodeLabels.{AreSupportedBelow, IsLabelled, entries}
use Rattle.dimacs_judging.proofs.node_labels.relax_rest.Given as goal

-- the labels for which the arcs so far are tight are supported
abbrev pub invariant-loop-i : goal.invariant-loop-i
invariant-loop-i g l = record {
  labelled : IsLabelled g.D.Distance.value (g.N.Network.list l.network) l.block l.node_labels;
  supported : AreSupportedBelow (g.N.Network.list l.network) l.block l.i (entries g.D.Distance.value l.node_labels);
}
