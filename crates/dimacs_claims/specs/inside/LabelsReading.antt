-- Inside: labels while their text is read.
use Rattle.std.specs.{Prelude.{ℕ, ◌≡◌, ◌≤◌, ◌+◌, List, [], ◌∷◌, ◌++◌, length, is_some}, List.{All}, Ordering.{nat_cmp}}
use Rattle.std.specs.FinSet.{FinSet, contains, empty}
use Rattle.dimacs_lines.specs.Limits.{most_count, most_nodes}
use Rattle.dimacs_claims.specs.Labels.{BlockValue, EachAfter, IsBlock, IsNewSource, distance_in}
use Rattle.dimacs_claims.specs.LabelsReading.{LabelsBegun}

-- the last block declares no more labels than a text may have
abbrev pub LastIsFew : LabelsBegun → Type 0
LastIsFew begun = (front : List BlockValue) (b : BlockValue) → begun.blocks ≡ front ++ b ∷ [] → length b.labels + begun.missing ≤ most_count

-- a lawful state
pub record AreLabelsBegun (begun : LabelsBegun) : Type 0 where
  pub nodes_few : begun.nodes ≤ most_nodes
  pub blocks_few : begun.declared ≤ most_count
  pub no_more : length begun.blocks ≤ begun.declared
  pub last_few : LastIsFew begun
  pub none_lack : begun.blocks ≡ [] → begun.missing ≡ 0
  pub blocks : All (IsBlock begun.nodes) begun.blocks
  pub sources : EachAfter IsNewSource begun.blocks

-- the set has the nodes with a label in the last block
pub record AreLabelled (labelled : FinSet nat_cmp) (blocks : List BlockValue) : Type 0 where
  pub none : blocks ≡ [] → labelled ≡ empty
  pub last : (front : List BlockValue) (b : BlockValue) → blocks ≡ front ++ b ∷ [] → (id : ℕ)
      → contains labelled id ≡ is_some (distance_in b.labels id)
