use Rattle.std.proofs.Common.{◌≡◌, ◌∙◌, ℕ, ℤ, pos, ◌<ℤ◌, ◌<◌, ap, sym, subst}
use Rattle.dimacs_network.specs.Tables.{value_of}
use Rattle.dimacs_decide.specs.{inside.Residual.{IsResidualSearch, rank_of}, inside.Augmentation.{IsSent, IsStuck}}
use Rattle.dimacs_decide.specs.inside.Imbalances.{AreImbalances}
use Rattle.dimacs_decide.proofs.FeasibleLemmas.{sent_tells, stuck_tells}
use Rattle.dimacs_decide.proofs.feasible.decide_with_excess.Goals as goal

pub send-requires-clause-search : goal.send-requires-clause-search
send-requires-clause-search g c =
    let nodes = g.N.Network.node_count c.network-network.result.now in
    let arcs = g.N.Network.list c.network-network.result.now in
    let x = c.args.flow.now in
    let old = c.new-search.result in
    let new = c.begin_all.new.self in
    let same : value_of old.imbalance ≡ value_of c.args.imbalance = ap value_of c.new-search.ensures.imbalance in
    let kept : value_of new.imbalance ≡ value_of old.imbalance = ap value_of c.in_ok-begin_all.ensures.imbalance in
    let none = subst (λ (s : ℕ → ℤ). IsResidualSearch nodes arcs x s (value_of old.visits) old.queue.items 0) (sym same) (c.new-search.ensures.search nodes arcs x) in
    subst (λ (s : ℕ → ℤ). IsResidualSearch nodes arcs x s (value_of new.visits) new.queue.items 0) (sym kept) (rw c.nodes.ensures at c.in_ok-begin_all.ensures.search arcs x none)

pub returns-in-Sent : goal.returns-in-Sent
returns-in-Sent g c =
    let i = c.args.instance.now in
    let x = c.args.flow.now in
    let new = value_of c.begin_all.new.self.imbalance in
    let same : new ≡ value_of c.args.imbalance = ap value_of (c.in_ok-begin_all.ensures.imbalance ∙ c.new-search.ensures.imbalance) in
    let are : AreImbalances i x new = subst (AreImbalances i x) (sym same) c.requires.imbalance in
    let sent : IsSent i.nodes i.arcs x c.in-Sent.nearer new = rw (c.network-network.ensures.nodes, c.network-network.ensures.arcs, c.in-Sent.is) at c.in_ok-nearer.ensures in
    sent_tells i x c.in-Sent.nearer new are sent

pub returns-in-Stuck : goal.returns-in-Stuck
returns-in-Stuck g c =
    let i = c.args.instance.now in
    let x = c.args.flow.now in
    let old = value_of c.new-search.result.imbalance in
    let new = value_of c.begin_all.new.self.imbalance in
    let first : old ≡ value_of c.args.imbalance = ap value_of c.new-search.ensures.imbalance in
    let same : new ≡ value_of c.args.imbalance = ap value_of (c.in_ok-begin_all.ensures.imbalance ∙ c.new-search.ensures.imbalance) in
    let are : AreImbalances i x new = subst (AreImbalances i x) (sym same) c.requires.imbalance in
    let (r, node, some) = c.requires.excess in
    let reached : ℕ → Type 0 = λ v. 0 < rank_of (value_of c.begin_all.new.self.visits) v in
    let some_first : pos 0 <ℤ old r = subst (λ (s : ℕ → ℤ). pos 0 <ℤ s r) (sym first) some in
    let some_new : pos 0 <ℤ new r = subst (λ (s : ℕ → ℤ). pos 0 <ℤ s r) (sym same) some in
    let begun : reached r = (rw (c.nodes.ensures, c.network-network.ensures.nodes) at c.in_ok-begin_all.ensures.reached) r node some_first in
    let stuck : IsStuck i.nodes i.arcs x new reached c.in-Stuck.set = rw (c.network-network.ensures.nodes, c.network-network.ensures.arcs, c.in-Stuck.is) at c.in_ok-nearer.ensures in
    stuck_tells i x new reached c.in-Stuck.set c.network-network.ensures.lawful are r node begun some_new stuck
