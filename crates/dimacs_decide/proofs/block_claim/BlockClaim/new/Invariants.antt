use Rattle.std.proofs.Common.{◌≤◌, length}
use Rattle.dimacs_network.specs.DenseTables.{HasNodes, value_at}
use Rattle.dimacs_decide.proofs.BlockClaimLemmas.{AreFrom}
use Rattle.dimacs_decide.proofs.block_claim.BlockClaim.new.Given as goal

abbrev pub invariant-loop-at : goal.invariant-loop-at
invariant-loop-at g l = record {
  within : l.at ≤ length l.block.labels;
  nodes : HasNodes l.distances l.nodes;
  distances : AreFrom l.block.labels l.at (λ v. g.D.Distance.value (value_at l.distances v));
}

abbrev pub decreases-loop-at : goal.decreases-loop-at
decreases-loop-at g l = l.at
