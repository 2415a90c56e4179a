use Rattle.std.proofs.Common.{◌≡◌}
use Rattle.dimacs_fill.specs.{BlockFilled.{distances_of}, Filling.{filled}}
use Rattle.dimacs_fill.proofs.BlockLemmas.{first_labels}
use Rattle.dimacs_fill.proofs.block.fill_distances.Given as goal

-- the distances of the labels so far
abbrev pub invariant-loop-i : goal.invariant-loop-i
invariant-loop-i l = l.distances ≡ filled (distances_of l.nodes (first_labels l.block l.i)) l.fn.distances
