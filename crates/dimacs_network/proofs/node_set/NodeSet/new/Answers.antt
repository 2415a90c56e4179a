use Rattle.std.proofs.Common.{ap}
use Rattle.dimacs_network.specs.Sets.{byte_at}
use Rattle.dimacs_network.proofs.SetLemmas.{nodes_in-none}
use Rattle.dimacs_network.proofs.node_set.NodeSet.new.Goals as goal

pub returns : goal.returns
returns c = nodes_in-none c.new.result.items (λ place. ap (λ bytes. byte_at bytes place) c.new.ensures.items)
