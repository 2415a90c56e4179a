use Rattle.std.proofs.Common.{◌≡◌}
use Rattle.dimacs_network.specs.Tables.{value_of}
use Rattle.dimacs_decide.specs.inside.Heights.{AreStartHeights, bound, height_of}
use Rattle.dimacs_decide.proofs.least.start_labels.Given as goal

abbrev pub invariant-loop-i : goal.invariant-loop-i
invariant-loop-i g l = record { start_heights : AreStartHeights (value_of l.labels); root : height_of (value_of l.labels) 0 ≡ bound 0 }
