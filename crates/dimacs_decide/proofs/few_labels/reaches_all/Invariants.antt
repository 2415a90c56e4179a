use Rattle.dimacs_network.specs.Tables.{value_of}
use Rattle.dimacs_decide.proofs.FewLemmas.{AreReachedFirst}
use Rattle.dimacs_decide.proofs.few_labels.reaches_all.Given as goal

abbrev pub invariant-loop-i : goal.invariant-loop-i
invariant-loop-i l = AreReachedFirst l.claimed (value_of l.tree.reached) l.i
