use Rattle.std.proofs.Common.{◌≡◌, ◌-◌, None, length}
use Rattle.dimacs_claims.specs.Labels.{IsBlock}
use Rattle.dimacs_decide.specs.Claims.{claimed_by_node}
use Rattle.dimacs_arrays.proofs.PathsOverLemmas.{first_labels}
use Rattle.dimacs_arrays.proofs.paths_over.block_by_id.Given as goal

-- the labels of the nodes so far
abbrev pub invariant-loop-id : goal.invariant-loop-id
invariant-loop-id l =
    (l.block ≡ record { source = l.source; radius = None; labels = first_labels l.source (claimed_by_node l.distances) (l.id - 1) }) × IsBlock (length l.distances) l.block
