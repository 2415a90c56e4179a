use Rattle.std.proofs.{Common.{◌∙◌}, lemmas.List.{with_items_is}}
use Rattle.dimacs_network.proofs.SlotLemmas.{slot_value-blank}
use Rattle.dimacs_network.proofs.node_table.NodeTable.clear.Goals as goal

pub returns-clause-values : goal.returns-clause-values
returns-clause-values g c =
    let table = c.args.self.now in
    rw (with_items_is table.slots c.fill.new.items (c.fill.ensures.same_length ∙ c.deref_mut.ensures.len)) (slot_value-blank table.blank table.directory.items c.fill.new.items c.fill.ensures.all)
