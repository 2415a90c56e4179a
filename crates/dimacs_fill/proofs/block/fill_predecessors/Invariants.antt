use Rattle.std.proofs.Common.{◌≡◌}
use Rattle.dimacs_fill.specs.{BlockFilled.{preds_of}, Filling.{filled}}
use Rattle.dimacs_fill.proofs.BlockLemmas.{first_labels}
use Rattle.dimacs_fill.proofs.block.fill_predecessors.Given as goal

-- the predecessors of the labels so far
abbrev pub invariant-loop-i : goal.invariant-loop-i
invariant-loop-i l = l.predecessors ≡ filled (preds_of l.nodes (first_labels l.block l.i)) l.fn.predecessors
