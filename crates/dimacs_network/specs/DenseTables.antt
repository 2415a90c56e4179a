-- Tables with a value for each node up to a last one.
use Rattle.std.specs.Prelude.{ℕ, ◌≡◌, ◌<◌, length, slice_index_or}
use Rattle.dimacs_network.specs.declared.dense_table.DenseTable.{DenseTable}

module _ {T : Type 0} where
  -- the value of a node; blank past the last
  abbrev pub value_at : DenseTable T → ℕ → T
  value_at table id = slice_index_or table.values.items id table.blank

  -- the table has a node, all nodes up to one, the same nodes as another
  abbrev pub HasNode : DenseTable T → ℕ → Type 0
  HasNode table id = id < length table.values.items

  abbrev pub HasNodes : DenseTable T → ℕ → Type 0
  HasNodes table last = last < length table.values.items

  abbrev pub SameNodes : DenseTable T → DenseTable T → Type 0
  SameNodes old new = length new.values.items ≡ length old.values.items
