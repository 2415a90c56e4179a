use Rattle.std.proofs.Common.{◌≡◌, take}
use Rattle.dimacs_judging.specs.LightestArcs.{arcs_in}
use Rattle.dimacs_decide.proofs.few_labels.lightest_network.Given as goal

-- the arcs at the indices so far
abbrev pub invariant-loop-k : goal.invariant-loop-k
invariant-loop-k g l = l.lightest ≡ record { nodes = g.N.Network.node_count l.network; arcs = arcs_in (g.N.Network.list l.network) (take l.k l.order.items) }
