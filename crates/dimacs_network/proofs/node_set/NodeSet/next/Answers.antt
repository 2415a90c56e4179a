use Rattle.std.proofs.Common.{◌∙◌}
use Rattle.dimacs_network.proofs.{SetLemmas.{contains-nodes_in}, SkipLemmas.{Skips-weaker}}
use Rattle.dimacs_network.proofs.node_set.NodeSet.next.Goals as goal

pub returns : goal.returns
returns c = rw (← c.self.view_is) (Skips-weaker _ _ _ _ _ (λ id none. contains-nodes_in c.self.inside.bytes.items id ∙ none) (rw c.deref-2.ensures.value at c.next_byte.ensures))
