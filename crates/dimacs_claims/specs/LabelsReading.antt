-- Labels while their text is read.
use Rattle.std.specs.Prelude.{ℕ, ◌+◌, List, [], ◌∷◌, ◌++◌, map, length, Some, None, false, is_none, not}
use Rattle.std.specs.List.{list_any}
use Rattle.dimacs_records.specs.{declared.records.Record.{Record}, declared.order.Context.{Context}, Earlier.{names}}
use Rattle.dimacs_records.specs.declared.records.Record.TheVariants.{LabelsProblem, LabelsBlock, LabelsNode, DistancesBlock, DistancesNode}
use Rattle.dimacs_records.specs.Blocks.{block_in, is_full_block, is_labelled, is_past_block, is_short_block}
use Rattle.dimacs_records.specs.Tests.{plain_context_of}
use Rattle.dimacs_claims.specs.{Labels.{BlockValue}, LabelTexts.{label_line}}

-- the declared numbers, the blocks so far, and how many labels the last block still lacks
pub record LabelsBegun : Type 0 where
  pub nodes : ℕ
  pub declared : ℕ
  pub missing : ℕ
  pub blocks : List BlockValue

-- the lines so far of a block that lacks so many labels
abbrev pub lines_of_short : ℕ → BlockValue → List Record
lines_of_short missing b = LabelsBlock b.source (length b.labels + missing) b.radius ∷ map label_line b.labels

-- how many labels a block lacks if these blocks follow it: none, unless it is the last
abbrev pub lacking : ℕ → List BlockValue → ℕ
lacking missing [] = missing
lacking missing (b ∷ more) = 0

-- the lines so far of blocks, the last of which lacks labels
abbrev pub lines_of_blocks : ℕ → List BlockValue → List Record
lines_of_blocks missing [] = []
lines_of_blocks missing (b ∷ more) = lines_of_short (lacking missing more) b ++ lines_of_blocks missing more

-- the records so far
abbrev pub labels_begun_records : LabelsBegun → List Record
labels_begun_records begun = LabelsProblem begun.nodes begun.declared ∷ lines_of_blocks begun.missing begun.blocks

-- what the tests need if blocks don't matter
abbrev pub plain_context : LabelsBegun → Context
plain_context begun = plain_context_of (Some (record { nodes = Some begun.nodes; count = begun.declared })) (length begun.blocks)

-- the same at the end
abbrev pub end_context : LabelsBegun → Context
end_context begun = record (plain_context begun) { block_short = is_short_block (block_in (labels_begun_records begun)) }

-- the same for one more record
abbrev pub context : LabelsBegun → Record → Context
context begun (LabelsBlock source count radius) = record (end_context begun) { named = list_any (names source) (labels_begun_records begun) }
context begun (LabelsNode id dist pred) =
    let block = block_in (labels_begun_records begun) in
    record (plain_context begun) {
      misplaced = is_none block;
      named = is_labelled block id;
      block_full = is_full_block block;
      pred_unknown = not (is_labelled block pred);
      past_radius = is_past_block block dist;
    }
context begun r = plain_context begun

-- the same for a line of distances, which has no PRED and no RADIUS
abbrev pub bare_context : LabelsBegun → Record → Context
bare_context begun (DistancesBlock source count) = context begun (LabelsBlock source count None)
bare_context begun (DistancesNode id dist) = record (context begun (LabelsNode id dist id)) { pred_unknown = false; past_radius = false }
bare_context begun r = plain_context begun
