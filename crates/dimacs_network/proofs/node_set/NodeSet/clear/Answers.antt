use Rattle.std.proofs.{Common.{◌∙◌}, lemmas.List.{with_items_is}}
use Rattle.dimacs_network.proofs.SetLemmas.{nodes_in-none}
use Rattle.dimacs_network.proofs.node_set.NodeSet.clear.Goals as goal

pub returns : goal.returns
returns c =
    rw (with_items_is c.self.inside.bytes c.fill.new.items (c.fill.ensures.same_length ∙ c.deref_mut.ensures.len)) (nodes_in-none c.fill.new.items c.fill.ensures.all)
