use Rattle.std.proofs.Common.{◌-◌}
use Rattle.dimacs_methods.proofs.node_numbers.NodeNumbers.new.Given as goal

abbrev pub decreases-loop-id : goal.decreases-loop-id
decreases-loop-id g l = l.end - l.id
