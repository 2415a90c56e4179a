use Rattle.std.proofs.Common.{◌≢◌, All, take}
use Rattle.dimacs_claims.specs.Labels.{BlockValue}
use Rattle.dimacs_fill.proofs.block.block_of.Given as goal

-- the blocks so far are of other sources
abbrev pub invariant-loop-block : goal.invariant-loop-block
invariant-loop-block l = All (λ (b : BlockValue). b.source ≢ l.source) (take l.block-index l.blocks)
