use Rattle.std.proofs.Common.{refl, ap}
use Rattle.dimacs_claims.specs.Labels.{BlockValue, label}
use Rattle.dimacs_decide.proofs.CertifiedPathsLemmas.{decided_here}
use Rattle.dimacs_decide.proofs.certified_paths.search_one.Goals as goal

pub returns-clause-decides : goal.returns-clause-decides
returns-clause-decides g c =
    let b = c.args.claimed.now in
    decided_here c.args.graph.now b b c.source.result (label c.in_ok-claim.claim.block.now) c.search_block.result refl c.source.ensures (λ v. ap (λ (o : BlockValue). label o v) c.in_ok-claim.ensures) c.search_block.ensures.decides
