use Rattle.std.proofs.Common.{◌≡◌}
use Rattle.dimacs_facts.proofs.no_flow.all_nodes.Given as goal

abbrev pub invariant-loop-node : goal.invariant-loop-node
invariant-loop-node l = l.set.nodes ≡ l.nodes
