use Rattle.std.proofs.Common.{neg_ℤ}
use Rattle.dimacs_claims.specs.Potentials.{potential_of}
use Rattle.dimacs_judging.proofs.Duality.{slack_is_least}
use Rattle.dimacs_facts.proofs.opposite.opposite_shows.Goals as goal

pub returns-in-Ok : goal.returns-in-Ok
returns-in-Ok g c = λ shown.
    let slack = rw c.network-network.ensures.arcs at (c.are_opposite.ensures shown) in
    (slack, slack_is_least c.args.min.now c.network-network.ensures.lawful.joined c.args.flow.now (λ v. neg_ℤ (potential_of c.args.potentials.now v)) c.in-Ok.ensures slack)
