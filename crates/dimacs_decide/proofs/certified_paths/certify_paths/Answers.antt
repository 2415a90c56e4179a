use Rattle.std.proofs.{Common.{◌≡◌, ◌∙◌, ◌<◌, ◌≤◌, Ok, Err, length, arith, ap, refl, subst}, lemmas.List.{take_all}}
use Rattle.std.proofs.lemmas.List.Elements.{All-more}
use Rattle.std.specs.List.{AllZip}
use Rattle.dimacs_claims.specs.Labels.{AreLabels, BlockValue, LabelsValue, label}
use Rattle.dimacs_judging.specs.inside.Labels.{block_at}
use Rattle.dimacs_decide.specs.{CertifiedPaths.{AreAllDistances}, Distances.{AreDistancesFrom}}
use Rattle.dimacs_decide.specs.inside.DistanceBlocks.{IsBlockFor}
use Rattle.dimacs_decide.proofs.CertifiedPathsLemmas.{decided_here, fewer, made_more, next_source, paths_certified, refused_at, same_block, sources_within}
use Rattle.dimacs_decide.proofs.certified_paths.certify_paths.Goals as goal

pub returns-in_err-block : goal.returns-in_err-block
returns-in_err-block g c =
    let value = c.args.graph.now in
    let blocks = c.args.distances.now.blocks in
    let inside : c.loop-i.i < length blocks = rw c.blocks-blocks.ensures.blocks at c.loop-i-test.true in
    let b : c.index-blocks-i.result ≡ block_at blocks c.loop-i.i = same_block blocks c.loop-i.i c.index-blocks-i.result inside (rw c.blocks-blocks.ensures.blocks at c.index-blocks-i.is) in
    let outcome = decided_here value c.index-blocks-i.result (block_at blocks c.loop-i.i) c.index-blocks-i.result.source (label c.index-blocks-i.result) (Err c.in_err-block.field-0.0) b refl (λ v. refl) c.in_err-block.ensures.decides in
    let lawful : AreLabels c.args.distances.now = c.blocks-blocks.ensures.lawful.0 in
    refused_at value c.network-network.ensures.lawful.joined blocks c.loop-i.i c.in_err-block.field-0.0 inside (sources_within value.nodes c.args.distances.now c.requires lawful) c.loop-i.invariant.hold outcome _ c.from_residual-in_err-block.ensures.1

pub push-requires-clause-source : goal.push-requires-clause-source
push-requires-clause-source g c =
    let blocks = c.args.distances.now.blocks in
    let inside : c.loop-i.i < length blocks = rw c.blocks-blocks.ensures.blocks at c.loop-i-test.true in
    let b : c.index-blocks-i.result ≡ block_at blocks c.loop-i.i = same_block blocks c.loop-i.i c.index-blocks-i.result inside (rw c.blocks-blocks.ensures.blocks at c.index-blocks-i.is) in
    let outcome = decided_here _ c.index-blocks-i.result (block_at blocks c.loop-i.i) c.index-blocks-i.result.source (label c.index-blocks-i.result) (Ok c.in_ok-block.block) b refl (λ v. refl) c.in_ok-block.ensures.decides in
    next_source _ blocks c.loop-i.labels.blocks c.loop-i.i inside c.loop-i.invariant.made c.blocks-blocks.ensures.lawful.0.sources c.in_ok-block.block outcome.1.source

pub push-requires-clause-few : goal.push-requires-clause-few
push-requires-clause-few g c =
    let blocks = c.args.distances.now.blocks in
    let inside : c.loop-i.i < length blocks = rw c.blocks-blocks.ensures.blocks at c.loop-i-test.true in
    omega (arith, fewer c.args.graph.now blocks c.loop-i.labels.blocks c.loop-i.i inside c.loop-i.invariant.made, c.blocks-blocks.ensures.lawful.0.blocks_few)

pub loop-i-preserved : goal.loop-i-preserved
loop-i-preserved g c =
    let value = c.args.graph.now in
    let blocks = c.args.distances.now.blocks in
    let inside : c.loop-i.i < length blocks = rw c.blocks-blocks.ensures.blocks at c.loop-i-test.true in
    let b : c.index-blocks-i.result ≡ block_at blocks c.loop-i.i = same_block blocks c.loop-i.i c.index-blocks-i.result inside (rw c.blocks-blocks.ensures.blocks at c.index-blocks-i.is) in
    let outcome = decided_here value c.index-blocks-i.result (block_at blocks c.loop-i.i) c.index-blocks-i.result.source (label c.index-blocks-i.result) (Ok c.in_ok-block.block) b refl (λ v. refl) c.in_ok-block.ensures.decides in
    let pushed = c.in_ok-push.ensures.pushed in
    record {
      nodes = ap (λ (l : LabelsValue). l.nodes) pushed ∙ c.loop-i.invariant.nodes;
      made = rw (ap (λ (l : LabelsValue). l.blocks) pushed) (made_more value blocks c.loop-i.labels.blocks c.loop-i.i c.in_ok-block.block inside c.loop-i.invariant.made outcome.1);
      lists = c.in_ok-block.ensures.lists;
      free = c.in_ok-block.ensures.free;
      hold = All-more (λ (d : BlockValue). AreDistancesFrom value d.source (label d)) blocks c.loop-i.i _ inside c.loop-i.invariant.hold outcome.0;
    }

pub returns : goal.returns
returns g c =
    let value = c.args.graph.now in
    let blocks = c.args.distances.now.blocks in
    let past = rw c.blocks-blocks.ensures.blocks at c.loop-i-test.false in
    let all : length blocks ≤ c.loop-i.i = omega (arith, past) in
    let hold : AreAllDistances value blocks = subst (AreAllDistances value) (take_all c.loop-i.i blocks all) c.loop-i.invariant.hold in
    let zip : AllZip (IsBlockFor value) blocks c.loop-i.labels.blocks = subst (λ front. AllZip (IsBlockFor value) front c.loop-i.labels.blocks) (take_all c.loop-i.i blocks all) c.loop-i.invariant.made in
    let lawful : AreLabels c.args.distances.now = c.blocks-blocks.ensures.lawful.0 in
    (hold, paths_certified value blocks c.loop-i.labels.blocks lawful.sources zip c.loop-i.labels.nodes c.loop-i.invariant.nodes (sources_within value.nodes c.args.distances.now c.requires lawful))
