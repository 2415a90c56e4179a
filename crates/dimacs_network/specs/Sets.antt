-- Sets of nodes, kept as a bit for each in bytes of 8 nodes.
use Rattle.std.specs.{Prelude.{ℕ, ◌*◌, ◌/◌, ◌%◌, ◌==◌, Bool, List, length, slice_index_or}, Bool.{then_some}}
use Rattle.std.specs.{Int.{bit_at}, Ordering.{nat_cmp}, FinMap.{keys}, FinSet.{FinSet, from_list}}
use Rattle.dimacs_network.specs.Maps.{values_below}

-- the node's bit is set in its byte
abbrev pub has_bit : ℕ → ℕ → Bool
has_bit byte id = bit_at byte (id % 8) == 1

-- the byte at a place; past the last it has no node
abbrev pub byte_at : List ℕ → ℕ → ℕ
byte_at bytes place = slice_index_or bytes place 0

-- the byte of a node is at the node's ID divided by 8
abbrev pub has_node : List ℕ → ℕ → Bool
has_node bytes id = has_bit (byte_at bytes (id / 8)) id

-- the nodes whose bits are set in these bytes
unfoldable pub nodes_in : List ℕ → FinSet nat_cmp
nodes_in bytes = from_list (keys (values_below (λ id. then_some (has_node bytes id) (tt {0})) (8 * length bytes)))
