use Rattle.dimacs_facts.specs.Walks.{HasWalk}
use Rattle.dimacs_facts.proofs.cycle.is_negative_cycle.Given as goal

abbrev pub invariant-loop-index : goal.invariant-loop-index
invariant-loop-index g l = HasWalk (g.N.Network.list l.network) l.start l.at l.sum
