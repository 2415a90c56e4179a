use Rattle.std.proofs.Common.{◌≤◌}
use Rattle.dimacs_network.proofs.arc_index.count_before.Given as goal

-- no more than were passed
abbrev pub invariant-loop-place : goal.invariant-loop-place
invariant-loop-place l = l.count ≤ l.place
