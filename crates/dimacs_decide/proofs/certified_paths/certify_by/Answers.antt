use Rattle.std.proofs.Common.{◌∙◌, ap, is_some, refl, sym}
use Rattle.dimacs_network.specs.DenseTables.{value_at}
use Rattle.dimacs_decide.proofs.{BlockClaimLemmas.{label_within}, CertifiedPathsLemmas.{decided_here}}
use Rattle.dimacs_decide.proofs.certified_paths.certify_by.Goals as goal

pub certify_block-requires-clause-within : goal.certify_block-requires-clause-within
certify_block-requires-clause-within g c =
    λ v some. label_within c.args.graph.now.nodes c.args.claimed.now c.requires.lawful v (sym (ap is_some (c.in_ok-claim.ensures v)) ∙ some)

pub returns-clause-decides : goal.returns-clause-decides
returns-clause-decides g c =
    let b = c.args.claimed.now in
    decided_here c.args.graph.now b b c.source.result (λ v. g.D.Distance.value (value_at c.in_ok-claim.claim.distances v)) c.certify_block.result refl c.source.ensures c.in_ok-claim.ensures c.certify_block.ensures.decides
