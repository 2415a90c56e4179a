use Rattle.std.proofs.Common.{arith}
use Rattle.dimacs_solve.proofs.NodeStateLemmas.{no_later}
use Rattle.dimacs_solve.proofs.node_states.NodeStates.settle.Goals as goal

pub invariant_of-self : goal.invariant_of-self
invariant_of-self g c = record { no_later = no_later c.args.self.now.round c.args.self.now.node_states c.set.new.self c.args.self.now.no_later c.args.node _ (omega arith) c.set.result c.set.ensures.set c.set.ensures.others c.set.ensures.unchanged }
