use Rattle.std.proofs.Common.{length}
use Rattle.dimacs_decide.specs.Claims.{claimed_by_node}
use Rattle.dimacs_arrays.proofs.PathsOverLemmas.{bare_block}
use Rattle.dimacs_arrays.proofs.paths_over.distances_by_node.Goals as goal

pub push-requires-clause-bare : goal.push-requires-clause-bare
push-requires-clause-bare c = bare_block c.args.source (claimed_by_node c.args.distances.now) (length c.args.distances.now) c.in_ok-block.block c.in_ok-block.ensures.block
