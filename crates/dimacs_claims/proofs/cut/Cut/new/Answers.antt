use Rattle.std.proofs.Common.{sym}
use Rattle.dimacs_claims.proofs.CutLemmas.{empty_law, no_nodes}
use Rattle.dimacs_claims.proofs.cut.Cut.new.Goals as goal

pub invariant_of-result : goal.invariant_of-result
invariant_of-result c = rw (c.new.ensures) (empty_law c.args.nodes c.requires, sym (no_nodes c.args.nodes))
