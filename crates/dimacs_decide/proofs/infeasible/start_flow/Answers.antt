use Rattle.std.proofs.Common.{◌≡◌, map}
use Rattle.dimacs_network.specs.declared.network.ArcView.{ArcView}
use Rattle.dimacs_decide.proofs.InfeasibleLemmas.{lowest_keeps}
use Rattle.dimacs_decide.proofs.infeasible.start_flow.Goals as goal

pub returns : goal.returns
returns g c =
    let i = c.args.instance.now in
    let is : c.in_ok-lowest.lowest ≡ map (λ (a : ArcView). a.low) i.arcs = rw c.network.ensures.arcs at c.in_ok-lowest.ensures in
    rw is (lowest_keeps i.arcs c.network.ensures.lawful.bounds)
