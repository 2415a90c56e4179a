use Rattle.std.proofs.{Common.{ap, length}, lemmas.Result.{err_from_is_err_and}}
use Rattle.dimacs_claims.specs.LabelTexts.{FitText}
use Rattle.dimacs_claims.proofs.LabelLaws.{labels_round_trip}
use Rattle.dimacs_runs.proofs.{LabelCounts.{labels_fit}, CertifyingLemmas.{distances_error, labels_certify}}
use Rattle.dimacs_runs.proofs.certify_distances.answer_blocks.Goals as goal

pub returns-clause-certifies : goal.returns-clause-certifies
returns-clause-certifies g c = λ fits.
    let labels = c.in_ok-labels.labels in
    let few : FitText labels = labels_fit c.args.graph.now _ labels c.blocks-2.ensures.lawful.0 c.certified.ensures.readable c.requires c.in_ok-labels.ensures.1 fits in
    rw c.certified.ensures.outcome (labels_certify c.args.graph.now _ labels _ (ap length c.blocks-2.ensures.blocks) c.requires c.in_ok-labels.ensures (labels_round_trip labels c.certified.ensures.readable few))

pub returns-in_err-labels-clause-certifies : goal.returns-in_err-labels-clause-certifies
returns-in_err-labels-clause-certifies g c = λ fits.
    let (stop, is, same) = err_from_is_err_and c.from_residual.result c.from_residual.ensures.1 in
    rw (is, same) (distances_error c.args.graph.now c.args.distances.now _ c.requires c.in_err-labels.ensures)
