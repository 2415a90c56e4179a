-- The slots of IDs, in pages of 64.
use Rattle.std.specs.Prelude.{ℕ, ◌+◌, ◌*◌, ◌/◌, ◌%◌, List, slice_index_or}
use Rattle.dimacs_network.specs.declared.node_table.TheConstants.{NO_PAGE}

-- the number of the page of this ID
abbrev pub number_of : List ℕ → ℕ → ℕ
number_of directory id = slice_index_or directory (id / 64) NO_PAGE

-- the index of this ID's slot
unfoldable pub place_of : List ℕ → ℕ → ℕ
place_of directory id = 64 * number_of directory id + id % 64

-- the value in this ID's slot; blank without a slot
unfoldable pub slot_value : {T : Type 0} → T → List ℕ → List T → ℕ → T
slot_value blank directory slots id = slice_index_or slots (place_of directory id) blank
