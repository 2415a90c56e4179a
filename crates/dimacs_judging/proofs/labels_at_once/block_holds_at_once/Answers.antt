use Rattle.std.proofs.Common.{refl}
use Rattle.dimacs_judging.proofs.labels_at_once.block_holds_at_once.Goals as goal

pub relax_all-requires-clause-labelled : goal.relax_all-requires-clause-labelled
relax_all-requires-clause-labelled g c = c.if-not-set_labels.ensures.labelled refl (g.N.Network.list c.args.network.now)
