use Rattle.std.proofs.Common.{ℕ, ◌≡◌}
use Rattle.dimacs_judging.specs.Cuts.{members}
use Rattle.dimacs_arrays.specs.ByNode.{marked}
use Rattle.dimacs_arrays.proofs.ByNodeLemmas.{nodes_among}
use Rattle.dimacs_arrays.proofs.by_node.cut_of.Given as goal

-- the nodes so far
abbrev pub invariant-loop-i : goal.invariant-loop-i
invariant-loop-i l = record {
  nodes : l.cut.nodes ≡ l.nodes;
  members : (v : ℕ) → members l.cut v ≡ nodes_among l.i (marked l.inside v) v;
}
