use Rattle.std.proofs.{Common.{◌≡◌, ◌/◌, length, arith, rules}, lemmas.List.{get_or_past}}
use Rattle.std.specs.Vec.{vec_len}
use Rattle.dimacs_network.specs.declared.node_table.TheConstants.{NO_PAGE}
use Rattle.dimacs_network.proofs.SlotLemmas.{slot_value-no_page}
use Rattle.dimacs_network.proofs.node_table.NodeTable.end_of_ids.Goals as goal

pub returns-clause-within : goal.returns-clause-within
returns-clause-within g c =
    let table = c.args.self.now in
    let len : vec_len table.directory ≡ length table.directory.items = search rules in
    omega (arith, len, c.len.ensures, table.numbered.short)

pub returns-clause-blank_after : goal.returns-clause-blank_after
returns-clause-blank_after g c =
    let table = c.args.self.now in
    let len : vec_len table.directory ≡ length table.directory.items = search rules in
    λ id past. slot_value-no_page table.blank table.directory.items table.slots.items id table.numbered (get_or_past table.directory.items (id / 64) NO_PAGE (omega (arith, past, len, c.len.ensures)))
