-- A node table as a map.
use Rattle.std.specs.{Prelude.{ℕ, zero, suc, ◌*◌, ◌^◌, ◌-◌, ℤ, pos, int_lt, Option, None, Some}, Bool.{then_some}}
use Rattle.std.specs.{Ordering.{nat_cmp}, FinMap.{FinMap, empty, insert}}
use Rattle.dimacs_network.specs.{declared.node_table.NodeTable.{NodeTable}, Tables.{reach_of, value_of}}

module _ {T : Type 0} where
  -- the map, with this value at this ID if it is one
  abbrev pub with_option : FinMap nat_cmp T → ℕ → Option T → FinMap nat_cmp T
  with_option nodes id None = nodes
  with_option nodes id (Some value) = insert nodes id value

  -- the values of the IDs below n
  unfoldable pub values_below : (ℕ → Option T) → ℕ → FinMap nat_cmp T
  values_below value_of zero = empty
  values_below value_of (suc n) = with_option (values_below value_of n) n (value_of n)

  -- what this function makes of a table's values; of the blank value it makes `None`
  unfoldable pub made_of : {A : Type 0} → (A → Option T) → NodeTable A → FinMap nat_cmp T
  made_of make table = values_below (λ id. make (value_of table id)) (64 * reach_of table)

  -- the values of a table whose blank value is `None`
  abbrev pub values_in : NodeTable (Option T) → FinMap nat_cmp T
  values_in table = made_of (λ value. value) table

-- the greatest number of 128 bits
abbrev pub greatest : ℤ
greatest = pos (2 ^ 127 - 1)

-- the number, if it is below the greatest
abbrev pub below_greatest : ℤ → Option ℤ
below_greatest number = then_some (int_lt number greatest) number

-- the numbers of a table whose blank value is the greatest
abbrev pub numbers_in : NodeTable ℤ → FinMap nat_cmp ℤ
numbers_in table = made_of below_greatest table
