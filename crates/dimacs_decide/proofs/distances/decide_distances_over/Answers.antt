use Rattle.dimacs_decide.proofs.ClaimLemmas.{labelled, refused_alone}
use Rattle.dimacs_decide.proofs.distances.decide_distances_over.Goals as goal

pub returns-in_err-block : goal.returns-in_err-block
returns-in_err-block g c = refused_alone c.args.graph.now c.args.source (g.C.DistanceClaim.claimed c.args.claim.now) _ c.in_err-block.ensures _ c.from_residual.ensures.1

pub returns : goal.returns
returns g c =
    let made = rw (c.new-labels.ensures.empty, c.nodes.ensures, c.network.ensures.nodes) at c.in_ok-push.ensures.pushed in
    (c.in_ok-block.ensures.0, rw made (labelled c.args.graph.now c.args.source (g.C.DistanceClaim.claimed c.args.claim.now) c.in_ok-block.block c.requires.source c.in_ok-block.ensures.1))
