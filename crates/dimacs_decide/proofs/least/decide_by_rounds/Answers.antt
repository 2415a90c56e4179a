use Rattle.std.proofs.Common.{◌≡◌, ◌+◌, ◌∙◌, ap, arith, ℕ, cond}
use Rattle.dimacs_lines.specs.Limits.{IsNode}
use Rattle.dimacs_claims.specs.Potentials.{potential_of}
use Rattle.dimacs_network.specs.Tables.{value_of}
use Rattle.dimacs_decide.specs.inside.Heights.{BelowBound, bound, height_of}
use Rattle.dimacs_decide.proofs.{HeightLemmas.{heights_begun, begun_low, rise_left_less}, LeastLemmas.{settled_tells}}
use Rattle.dimacs_decide.proofs.least.decide_by_rounds.Goals as goal

pub loop-changed-init : goal.loop-changed-init
loop-changed-init g c = record {
  heights = heights_begun c.args.instance.now.arcs c.args.flow.now (value_of c.args.labels) c.requires.start_heights;
  bounded = begun_low (c.args.instance.now.nodes + 1) (value_of c.args.labels) c.requires.start_heights;
  settled = λ e. absurd (cc);
}

pub loop-changed-smaller-in_default : goal.loop-changed-smaller-in_default
loop-changed-smaller-in_default g c =
    let nodes = c.args.instance.now.nodes in
    let low = height_of (value_of c.loop-changed.labels) in
    let high = height_of (value_of c.round.new.labels) in
    let round = rw c.network-network.ensures.nodes at c.in_ok-changed.ensures.round in
    let below : BelowBound (nodes + 1) (value_of c.round.new.labels) = rw (c.in_default.is, c.network-network.ensures.nodes) at c.in_ok-cycle.ensures in
    let (v, inside, more) = round.more c.if-changed.true in
    let less = rise_left_less (bound (nodes + 1)) low high (nodes + 1) v round.grows (omega (arith, inside)) more (below v) in
    let before : cond {A = ℕ} c.loop-changed.changed 1 0 ≡ 1 = ap (λ b. cond {A = ℕ} b 1 0) c.loop-changed-test.true in
    let after : cond {A = ℕ} c.in_ok-changed.changed 1 0 ≡ 1 = ap (λ b. cond {A = ℕ} b 1 0) c.if-changed.true in
    omega (arith, less, before, after)

pub returns : goal.returns
returns g c =
    let i = c.args.instance.now in
    let labels = value_of c.loop-changed.labels in
    let p = c.in_ok-potentials.potentials in
    let same : (v : ℕ) → IsNode i.nodes v → potential_of p v ≡ height_of labels v = rw (c.nodes.ensures, c.network-network.ensures.nodes) at c.in_ok-potentials.ensures.values in
    let (best, slack) = settled_tells i c.args.flow.now labels (potential_of p) c.network-network.ensures.lawful c.requires.feasible (c.loop-changed.invariant.settled c.loop-changed-test.false) same in
    (best, slack, c.in_ok-potentials.ensures.nodes ∙ c.nodes.ensures ∙ c.network-network.ensures.nodes)
