use Rattle.std.proofs.Common.{◌≡◌, ◌≤◌, length, arith, rules}
use Rattle.std.specs.Vec.{vec_len}
use Rattle.dimacs_network.specs.Slots.{place_of}
use Rattle.dimacs_network.proofs.SlotLemmas.{slot_value-same_page}
use Rattle.dimacs_network.proofs.node_table.NodeTable.skip_blank.Goals as goal

pub returns-else-slot_index-len-clause-blank_between : goal.returns-else-slot_index-len-clause-blank_between
returns-else-slot_index-len-clause-blank_between g c =
    let table = c.args.self.now in
    let directory = table.directory.items in
    let values = table.slots.items in
    let len : vec_len table.slots ≡ length values = search rules in
    let place = rw c.deref.ensures.value at c.slot_index.ensures in
    let past : length values ≤ place_of directory c.args.id = omega (arith, len, c.len.ensures, place, c.if-slot_index-len.false) in
    λ other from below. slot_value-same_page table.blank directory values c.args.id other table.numbered past (omega (arith, from, below))
