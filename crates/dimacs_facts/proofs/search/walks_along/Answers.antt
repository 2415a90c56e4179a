use Rattle.std.proofs.Common.{refl, sym, subst}
use Rattle.dimacs_facts.specs.Walks.{AreWalks}
use Rattle.dimacs_facts.proofs.WalkLemmas.{walks_begin}
use Rattle.dimacs_facts.proofs.search.walks_along.Goals as goal

pub loop-round-init : goal.loop-round-init
loop-round-init g c =
    subst (AreWalks (g.N.Network.list c.args.network.now) c.args.source) (sym (rw c.new-by_node.ensures at c.in_ok-set.ensures.set))
    (walks_begin (g.N.Network.list c.args.network.now) c.args.source _ refl)
