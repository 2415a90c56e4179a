use Rattle.std.proofs.Common.{◌<◌}
use Rattle.dimacs_judging.specs.Cuts.{members}
use Rattle.dimacs_network.specs.Tables.{value_of}
use Rattle.dimacs_decide.specs.{inside.Residual.{rank_of}, inside.Augmentation.{IsSent, IsStuck}}
use Rattle.dimacs_decide.specs.inside.Imbalances.{AreEnds}
use Rattle.dimacs_decide.proofs.MaximumLemmas.{bounds_from_capacities, max_bounds, sent_tells, stuck_tells}
use Rattle.dimacs_decide.proofs.maximum.decide_by_search.Goals as goal

pub send-requires-clause-bounds : goal.send-requires-clause-bounds
send-requires-clause-bounds g c = rw c.network-network.ensures.arcs (max_bounds c.args.instance.now.arcs c.network-network.ensures.lawful.capacities)

pub send-requires-clause-within : goal.send-requires-clause-within
send-requires-clause-within g c = rw c.network-network.ensures.arcs (bounds_from_capacities c.args.instance.now.arcs c.args.flow.now c.network-network.ensures.lawful.capacities c.requires.within)

pub returns-in-Sent : goal.returns-in-Sent
returns-in-Sent g c =
    let i = c.args.instance.now in
    let imbalance = value_of c.in_ok-search.search.imbalance in
    let ends : AreEnds i.source i.sink imbalance = rw (c.source.ensures, c.sink.ensures) at c.in_ok-search.ensures.ends in
    let sent : IsSent i.nodes i.arcs c.args.flow.now c.in-Sent.better imbalance = rw (c.network-network.ensures.nodes, c.network-network.ensures.arcs, c.in-Sent.is) at c.in_ok-better.ensures in
    sent_tells i c.args.flow.now imbalance c.network-network.ensures.lawful c.requires ends c.in-Sent.better sent

pub returns : goal.returns
returns g c =
    let i = c.args.instance.now in
    let search = c.in_ok-search.search in
    let imbalance = value_of search.imbalance in
    let ends : AreEnds i.source i.sink imbalance = rw (c.source.ensures, c.sink.ensures) at c.in_ok-search.ensures.ends in
    let begun : 0 < rank_of (value_of search.visits) i.source = rw c.source.ensures at c.in_ok-search.ensures.reached in
    let stuck : IsStuck i.nodes i.arcs c.args.flow.now imbalance (λ v. 0 < rank_of (value_of search.visits) v) c.in-Stuck.cut = rw (c.network-network.ensures.nodes, c.network-network.ensures.arcs, c.in-Stuck.is) at c.in_ok-better.ensures in
    let (best, tight) = stuck_tells i c.args.flow.now imbalance c.network-network.ensures.lawful c.requires ends (members c.in-Stuck.cut) stuck.shut (stuck.has i.source c.network-network.ensures.lawful.source_within begun) in
    (best, tight, stuck.of)
