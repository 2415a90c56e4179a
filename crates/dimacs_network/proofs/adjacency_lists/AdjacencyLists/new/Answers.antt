use Rattle.std.proofs.{Common.{◌≡◌, get_or, ap, sym, ◌∙◌}, lemmas.Option.{get_or_from_slice_get}}
use Rattle.dimacs_network.specs.{AdjacencyLists.{end_at, end_of}, Arcs.{no_arc}, Tables.{value_of}}
use Rattle.dimacs_network.proofs.LinkLemmas.{linked_more}
use Rattle.dimacs_network.proofs.adjacency_lists.AdjacencyLists.new.Goals as goal

pub loop-i-preserved : goal.loop-i-preserved
loop-i-preserved g c =
    let arcs = g.N.Network.list c.args.network.now in
    let i = c.loop-i.i in
    let t = c.end_of-node.result in
    let is : get_or arcs i no_arc ≡ c.arc.result = get_or_from_slice_get arcs i c.arc.result no_arc c.arc.ensures in
    let near : end_at c.args.side arcs i ≡ t = ap (end_of c.args.side) is ∙ sym c.end_of-node.ensures in
    rw (c.in_ok-push.ensures.items, c.get.ensures.value) (linked_more c.args.side arcs i t (value_of c.loop-i.last) c.loop-i.before.items (value_of c.set.new.self) near c.in_ok-set.ensures.set c.in_ok-set.ensures.others c.loop-i.invariant)
