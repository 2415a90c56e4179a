use Rattle.std.proofs.Common.{[], ◌∷◌}
use Rattle.dimacs_claims.specs.Potentials.{potential_of}
use Rattle.dimacs_judging.specs.CertificateTests.{slack_row}
use Rattle.dimacs_judging.proofs.{Passing.{potentials_slack, slack_clear}, Settling.{decided, last_row}}
use Rattle.dimacs_judging.proofs.potentials.slack_tests.Goals as goal

pub returns : goal.returns
returns g c =
    let p = potential_of c.args.potentials.now in
    decided _ (slack_row _ p _ ∷ []) (λ clear. potentials_slack _ p _ c.requires clear.0) (λ slack. (slack_clear _ p _ slack, tt)) c.arcs_hold.result (last_row _ _ (rw c.network.ensures.arcs at c.arcs_hold.ensures))
