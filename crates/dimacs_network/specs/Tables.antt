-- Node tables.
use Rattle.std.specs.Prelude.{ℕ, ◌+◌, ◌/◌, ◌≡◌, ◌<◌, ◌≤◌, length, max}
use Rattle.dimacs_network.specs.{declared.node_table.NodeTable.{NodeTable}, Slots.{place_of, slot_value}}

module _ {T : Type 0} where
  -- the value of a node
  abbrev pub value_of : NodeTable T → ℕ → T
  value_of table id = slot_value table.blank table.directory.items table.slots.items id

  -- the value of each node that was not set
  abbrev pub blank_of : NodeTable T → T
  blank_of table = table.blank

  -- the node's page is allocated
  abbrev pub HasSlot : NodeTable T → ℕ → Type 0
  HasSlot table id = place_of table.directory.items id < length table.slots.items

  -- the node's slot has this index
  abbrev pub IsSlot : NodeTable T → ℕ → ℕ → Type 0
  IsSlot table id place = (place ≡ place_of table.directory.items id) × HasSlot table id

  abbrev pub SameValues : NodeTable T → NodeTable T → Type 0
  SameValues old new = (id : ℕ) → value_of new id ≡ value_of old id

  -- how many pages the directory covers; the page of an ID is `id / 64`
  abbrev pub reach_of : NodeTable T → ℕ
  reach_of table = length table.directory.items

  -- how many slots are allocated, 64 for each page
  abbrev pub slots_in : NodeTable T → ℕ
  slots_in table = length table.slots.items

  -- at most the page of this ID was allocated, if it had none, and the directory up to it
  pub record AllocatesOnlyItsPage (old new : NodeTable T) (id : ℕ) : Type 0 where
    pub reach : reach_of new ≤ max (reach_of old) (id / 64 + 1)
    pub page : slots_in new ≤ slots_in old + 64
    pub none : HasSlot old id → slots_in new ≡ slots_in old
