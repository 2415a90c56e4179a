use Rattle.dimacs_network.proofs.SlotLemmas.{slot_value-none}
use Rattle.dimacs_network.proofs.node_table.NodeTable.new.Goals as goal

pub returns-clause-values : goal.returns-clause-values
returns-clause-values g c = rw (c.new.ensures.items, c.new-2.ensures.items) (slot_value-none c.args.blank)
