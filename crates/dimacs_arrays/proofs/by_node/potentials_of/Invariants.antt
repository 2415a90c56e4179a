use Rattle.std.proofs.Common.{ℕ, ◌≡◌}
use Rattle.dimacs_claims.specs.Potentials.{potential_of}
use Rattle.dimacs_arrays.specs.ByNode.{number_of}
use Rattle.dimacs_arrays.proofs.ByNodeLemmas.{number_among}
use Rattle.dimacs_arrays.proofs.by_node.potentials_of.Given as goal

-- the potentials so far
abbrev pub invariant-loop-i : goal.invariant-loop-i
invariant-loop-i l = record {
  nodes : l.potentials.nodes ≡ l.nodes;
  numbers : (v : ℕ) → potential_of l.potentials v ≡ number_among l.i (number_of l.numbers v) v;
}
