use Rattle.dimacs_network.proofs.SlotLemmas.{slot_value-put, slot_value-put_elsewhere, slot_value-put_other}
use Rattle.dimacs_network.proofs.node_table.NodeTable.put.Goals as goal

pub returns-clause-set : goal.returns-clause-set
returns-clause-set g c =
    let table = c.args.self.now in
    λ id is. rw is.0 (slot_value-put table.blank table.directory.items table.slots.items id c.args.value is.1)

pub returns-clause-others : goal.returns-clause-others
returns-clause-others g c =
    let table = c.args.self.now in
    λ id other is. rw is.0 (slot_value-put_other table.blank table.directory.items table.slots.items id other c.args.value table.numbered is.1)

pub returns-clause-elsewhere : goal.returns-clause-elsewhere
returns-clause-elsewhere g c =
    let table = c.args.self.now in
    λ other off. slot_value-put_elsewhere table.blank table.directory.items table.slots.items c.args.place other c.args.value c.requires off
