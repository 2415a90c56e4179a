use Rattle.std.proofs.Common.{rules, ◌≡◌, ◌<◌, length, refl, arith}
use Rattle.std.specs.Vec.{vec_len}
use Rattle.dimacs_network.specs.Slots.{place_of}
use Rattle.dimacs_network.proofs.SlotLemmas.{slot_value-put, slot_value-put_other}
use Rattle.dimacs_network.proofs.node_table.NodeTable.set.Goals as goal

pub returns-in-Some-clause-set : goal.returns-in-Some-clause-set
returns-in-Some-clause-set g c =
    let table = c.args.self.now in
    let len : vec_len table.slots ≡ length table.slots.items = search rules in
    let place = rw c.deref.ensures.value at c.slot_index.ensures in
    let inside : place_of table.directory.items c.args.id < length table.slots.items = omega (arith, len, place, c.in-Some.ensures.variant.0 refl) in
    rw (c.slot_index.ensures, c.deref.ensures.value) (slot_value-put table.blank table.directory.items table.slots.items c.args.id c.args.value inside)

pub returns-in-Some-clause-others : goal.returns-in-Some-clause-others
returns-in-Some-clause-others g c =
    let table = c.args.self.now in
    let len : vec_len table.slots ≡ length table.slots.items = search rules in
    let place = rw c.deref.ensures.value at c.slot_index.ensures in
    let inside : place_of table.directory.items c.args.id < length table.slots.items = omega (arith, len, place, c.in-Some.ensures.variant.0 refl) in
    rw (c.slot_index.ensures, c.deref.ensures.value) (λ other. slot_value-put_other table.blank table.directory.items table.slots.items c.args.id other c.args.value table.numbered inside)
