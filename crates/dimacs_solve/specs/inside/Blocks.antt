-- Inside: the blocks of all sources.
use Rattle.std.specs.{Prelude.{ℕ, ◌≡◌, List, [], All, map}, Ordering.{nat_cmp}}
use Rattle.dimacs_claims.specs.Labels.{AreLabels, AreSources, BlockValue, LabelsValue, with_block}
use Rattle.dimacs_judging.specs.QueryTests.{HasBlock}
use Rattle.dimacs_solve.specs.{declared.adjacency.Adjacency.{Adjacency}, Paths.{block_source, distinct_after}}
use Rattle.dimacs_solve.specs.inside.Search.{IsPathTree}
use Rattle.std.specs.FinSet as set

-- the block of this source was added
pub record AddsBlock (a : Adjacency) (source : ℕ) (old new : LabelsValue) : Type 0 where
  pub block : BlockValue
  pub with : new ≡ with_block old block
  pub tree : IsPathTree a source block
  pub lawful : AreLabels new
  pub sources : (sources : set.FinSet nat_cmp) → AreSources sources old.blocks → AreSources (set.insert sources source) new.blocks

-- exactly the sources have a block
pub record AreSolved (a : Adjacency) (sources : List ℕ) (labels : LabelsValue) : Type 0 where
  pub lawful : AreLabels labels
  pub nodes : labels.nodes ≡ a.nodes
  pub trees : All (λ b. IsPathTree a b.source b) labels.blocks
  pub sources_are : map block_source labels.blocks ≡ distinct_after [] sources
  pub found : All (HasBlock labels.blocks) sources
