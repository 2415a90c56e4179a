use Rattle.std.proofs.Common.{◌≡◌, ◌∙◌, ℕ, None, Some, Bor, arith}
use Rattle.std.specs.Slice.{IsItemAt}
use Rattle.dimacs_network.specs.{Slots.{place_of}, Tables.{HasSlot, blank_of, value_of}}
use Rattle.dimacs_network.specs.declared.node_table.NodeTable.{NodeTable}
use Rattle.dimacs_network.proofs.SlotLemmas.{slot_value-found, slot_value-past}
use Rattle.dimacs_network.proofs.node_table.NodeTable.get_slot.Goals as goal

module _ {T : Type 0} (table : NodeTable T) (id : ℕ) where
  none_there : IsItemAt {X = T} table.slots.items (place_of table.directory.items id) None → (value_of table id ≡ blank_of table) × (¬ HasSlot table id)
  none_there none = (slot_value-past table.blank table.directory.items table.slots.items id none.3, λ has. absurd (omega (arith, has, none.3)))

  some_there : (value : Bor T) → IsItemAt table.slots.items (place_of table.directory.items id) (Some value) → (value.now ≡ value_of table id) × HasSlot table id
  some_there value is = (is.3.1 table.blank ∙ slot_value-found table.blank table.directory.items table.slots.items id, is.3.0)

pub returns-in_err-value : goal.returns-in_err-value
returns-in_err-value g c = rw c.from_residual.ensures (none_there c.args.self.now c.args.id (rw (c.slot_index-place.ensures, c.deref.ensures.value, c.deref-2.ensures.value, c.in_err-value.was) at c.get.ensures.lookup))

pub returns : goal.returns
returns g c =
    let there = some_there c.args.self.now c.args.id c.in_ok-value.field-0 (rw (c.slot_index-place.ensures, c.deref.ensures.value, c.deref-2.ensures.value, c.in_ok-value.was) at c.get.ensures.lookup) in
    (there.0, (rw c.deref.ensures.value at c.slot_index-place.ensures, there.1))
