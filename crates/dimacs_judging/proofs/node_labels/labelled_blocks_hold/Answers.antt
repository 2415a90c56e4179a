use Rattle.std.proofs.{Common.{◌≡◌, ◌<◌, Err, inl, length, subst}, lemmas.Result.{err_from_is_err_and}}
use Rattle.dimacs_claims.specs.Labels.{BlockValue}
use Rattle.dimacs_judging.specs.{CertificateTests.{weight_row}, inside.CertificateTests.{distance_rows}}
use Rattle.dimacs_judging.specs.{inside.Labels.{block_at}, Tests.{AllClear, Clear, FirstOfRow}, inside.Tests.{TestsAll}}
use Rattle.dimacs_judging.proofs.BlockLemmas.{after_weights, block_is, blocks_first, blocks_more, blocks_tests}
use Rattle.dimacs_judging.proofs.node_labels.labelled_blocks_hold.Goals as goal

pub returns-in_err-test_weights_for-clause-tests : goal.returns-in_err-test_weights_for-clause-tests
returns-in_err-test_weights_for-clause-tests g c =
    let arcs = g.N.Network.list c.args.network.now in
    let blocks = c.args.labels.now.blocks in
    let refusal = c.in_err-test_weights_for.field-0.0 in
    let inside : c.loop-i.i < length blocks = rw c.blocks-blocks.ensures.blocks at c.loop-i-test.true in
    let b : c.index-blocks-i.result ≡ block_at blocks c.loop-i.i = block_is blocks c.loop-i.i c.index-blocks-i.result inside (rw c.blocks-blocks.ensures.blocks at c.index-blocks-i.is) in
    let first = subst (λ (d : BlockValue). FirstOfRow (weight_row arcs d) refusal.0 refusal.1) b c.in_err-test_weights_for.ensures.tests in
    let p = err_from_is_err_and c.from_residual.result c.from_residual.ensures.1 in
    rw (p.1, p.2) (blocks_first arcs blocks c.loop-i.i refusal.0 refusal.1 inside c.loop-i.invariant.clear (inl first))

pub returns-in_err-labelled_block_holds-clause-tests : goal.returns-in_err-labelled_block_holds-clause-tests
returns-in_err-labelled_block_holds-clause-tests g c =
    let arcs = g.N.Network.list c.args.network.now in
    let blocks = c.args.labels.now.blocks in
    let error = c.in_err-labelled_block_holds.field-0.0 in
    let inside : c.loop-i.i < length blocks = rw c.blocks-blocks.ensures.blocks at c.loop-i-test.true in
    let b : c.index-blocks-i.result ≡ block_at blocks c.loop-i.i = block_is blocks c.loop-i.i c.index-blocks-i.result inside (rw c.blocks-blocks.ensures.blocks at c.index-blocks-i.is) in
    let weights = subst (λ (d : BlockValue). Clear (weight_row arcs d)) b c.in_ok-test_weights_for.ensures.tests in
    let distances = subst (λ (d : BlockValue). TestsAll (distance_rows arcs d) (Err error)) b c.in_err-labelled_block_holds.ensures.tests in
    let outcome = after_weights arcs (block_at blocks c.loop-i.i) error weights distances in
    let p = err_from_is_err_and c.from_residual-in_err-labelled_block_holds.result c.from_residual-in_err-labelled_block_holds.ensures.1 in
    rw (p.1, p.2) (blocks_tests arcs blocks c.loop-i.i error inside c.loop-i.invariant.clear outcome)

pub loop-i-preserved : goal.loop-i-preserved
loop-i-preserved g c =
    let arcs = g.N.Network.list c.args.network.now in
    let blocks = c.args.labels.now.blocks in
    let inside : c.loop-i.i < length blocks = rw c.blocks-blocks.ensures.blocks at c.loop-i-test.true in
    let b : c.index-blocks-i.result ≡ block_at blocks c.loop-i.i = block_is blocks c.loop-i.i c.index-blocks-i.result inside (rw c.blocks-blocks.ensures.blocks at c.index-blocks-i.is) in
    let weights = subst (λ (d : BlockValue). Clear (weight_row arcs d)) b c.in_ok-test_weights_for.ensures.tests in
    let distances = subst (λ (d : BlockValue). AllClear (distance_rows arcs d)) b c.in_ok-labelled_block_holds.ensures.tests in
    record {
      clear = blocks_more arcs blocks c.loop-i.i inside c.loop-i.invariant.clear (weights, distances);
      unlabelled = c.in_ok-labelled_block_holds.ensures.unlabelled;
      tested = c.in_ok-test_weights_for.ensures.tested;
      lightest = c.in_ok-lightest_for.ensures;
    }
