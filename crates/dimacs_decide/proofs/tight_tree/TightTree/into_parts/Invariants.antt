use Rattle.dimacs_network.specs.Tables.{value_of}
use Rattle.dimacs_decide.proofs.FewLemmas.{AreLeft}
use Rattle.dimacs_decide.proofs.tight_tree.TightTree.into_parts.Given as goal

-- the source isn't reached any more, nor the nodes of the labels so far
abbrev pub invariant-loop-i : goal.invariant-loop-i
invariant-loop-i l = AreLeft l.fn.self.block l.i (value_of l.reached)
