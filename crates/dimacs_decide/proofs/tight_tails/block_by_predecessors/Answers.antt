use Rattle.std.proofs.Common.{◌≡◌, ℕ, All}
use Rattle.dimacs_lines.specs.Limits.{IsNode}
use Rattle.dimacs_claims.specs.Labels.{IsBlock, label}
use Rattle.dimacs_decide.specs.{Predecessors.{pred_by_node}, TightTails.{AreTightTails, IsRelaxedBy}}
use Rattle.dimacs_decide.proofs.{ClaimLemmas.{shown}, TightTailLemmas.{all_tight, tails_claimed}}
use Rattle.dimacs_decide.proofs.tight_tails.block_by_predecessors.Goals as goal

pub labelled_block-requires-clause-preds : goal.labelled_block-requires-clause-preds
labelled_block-requires-clause-preds g c =
    let arcs = g.N.Network.list c.network-network.result.now in
    rw c.deref.ensures.value (tails_claimed arcs (g.C.DistanceClaim.claimed c.args.claim.now) (pred_by_node c.in-Some.tails.items) (rw c.in-Some.is at c.in_ok-tails.ensures.tails))

pub returns-in-Ok : goal.returns-in-Ok
returns-in-Ok g c =
    let value = c.args.graph.now in
    let claim = g.C.DistanceClaim.claimed c.args.claim.now in
    let same = c.network-network.ensures in
    let tails = pred_by_node c.in-Some.tails.items in
    let relaxed : All (IsRelaxedBy claim) value.arcs = rw same.arcs at (rw c.in-Some.is at c.in_ok-tails.ensures.relaxed) in
    let are : AreTightTails value.arcs claim tails = rw same.arcs at (rw c.in-Some.is at c.in_ok-tails.ensures.tails) in
    let made = c.in-Ok.ensures in
    let block = c.in-Ok.block in
    let lawful : IsBlock value.nodes block = rw (c.nodes.ensures, same.nodes) at made.lawful in
    let agrees : (v : ℕ) → IsNode value.nodes v → label block v ≡ claim v = λ v node. made.agrees v in
    let tight = all_tight value claim tails block lawful agrees (rw c.deref.ensures.value at made.preds) are in
    shown value c.args.source claim block same.lawful.joined made.source made.whole lawful tight agrees relaxed
