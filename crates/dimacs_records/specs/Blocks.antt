-- The blocks of labels or distances among the earlier records of a text.
use Rattle.std.specs.Prelude.{ℕ, ◌==◌, Bool, List, [], ◌∷◌, ◌++◌, Option, Some, None, length, nat_lt, nat_le, ℤ, int_lt}
use Rattle.std.specs.List.{fold, list_any}
use Rattle.dimacs_records.specs.{Earlier.{is_some_and}, declared.records.Record.{Record}}
use Rattle.dimacs_records.specs.declared.records.Record.TheVariants.{LabelsBlock, LabelsNode, DistancesBlock, DistancesNode}

-- a `t` line, and the IDs of the `d` lines after it
pub record Block : Type 0 where
  pub source : ℕ
  pub count : ℕ
  pub radius : Option ℤ
  pub ids : List ℕ

abbrev pub with_labelled : Option Block → ℕ → Option Block
with_labelled None id = None
with_labelled (Some block) id = Some (record block { ids = block.ids ++ id ∷ [] })

-- the last block after one more record
abbrev pub block_after : Option Block → Record → Option Block
block_after block (LabelsBlock source count radius) = Some (record { source = source; count = count; radius = radius; ids = [] })
block_after block (LabelsNode id dist pred) = with_labelled block id
block_after block (DistancesBlock source count) = Some (record { source = source; count = count; radius = None; ids = [] })
block_after block (DistancesNode id dist) = with_labelled block id
block_after block r = block

-- the last block
abbrev pub block_in : List Record → Option Block
block_in rs = fold block_after None rs

-- the ID is the block's source or is on one of its `d` lines
abbrev pub is_labelled : Option Block → ℕ → Bool
is_labelled block id = is_some_and (λ (b : Block). list_any (λ other. other == id) (b.source ∷ b.ids)) block

-- the block has as many `d` lines as it declares, or more
abbrev pub is_full_block : Option Block → Bool
is_full_block block = is_some_and (λ (b : Block). nat_le b.count (length b.ids)) block

-- the block has fewer `d` lines than it declares
abbrev pub is_short_block : Option Block → Bool
is_short_block block = is_some_and (λ (b : Block). nat_lt (length b.ids) b.count) block

-- there is a radius, and the distance is greater
abbrev pub is_past : Option ℤ → ℤ → Bool
is_past radius dist = is_some_and (λ (most : ℤ). int_lt most dist) radius

-- the distance is greater than the block's RADIUS
abbrev pub is_past_block : Option Block → ℤ → Bool
is_past_block block dist = is_some_and (λ (b : Block). is_past b.radius dist) block
