use Rattle.dimacs_solve.proofs.OrderLemmas.{sorted_by_cost}
use Rattle.dimacs_solve.proofs.arcs_by_cost.arcs_by_cost.Goals as goal

pub returns : goal.returns
returns g c = sorted_by_cost (g.N.Network.list c.args.network.now) c.in_ok-order.order.items c.sort_unstable.new.self.items c.in_ok-order.ensures c.sort_unstable.ensures.permutation c.sort_unstable.ensures.sorted
