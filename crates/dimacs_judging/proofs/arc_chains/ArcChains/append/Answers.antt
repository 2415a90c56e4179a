use Rattle.std.proofs.Common.{◌≡◌, ◌+◌, ◌++◌, ◌∷◌, [], ◌<◌, length, map, set, get_or, arith, ap, sym, subst, ◌∙◌}
use Rattle.std.proofs.{lemmas.Option.{get_or_from_slice_get}, lemmas.List.{get_or_read, length_push, length-set}}
use Rattle.dimacs_network.specs.{AdjacencyLists.{AreLinked}, declared.adjacency_lists.Side.TheVariants.{Tail}}
use Rattle.dimacs_network.specs.Arcs.{arc_at, no_arc}
use Rattle.dimacs_judging.specs.inside.ArcChains.{chain_of, in_chain}
use Rattle.dimacs_judging.proofs.ArcChainLemmas.{chained_more}
use Rattle.dimacs_judging.proofs.arc_chains.ArcChains.append.Goals as goal

pub returns-clause-chained : goal.returns-clause-chained
returns-clause-chained g c =
    let arcs = g.N.Network.list c.args.network.now in
    let p = c.args.self.now in
    let i = c.args.i in
    let last = p.last.items in
    let chain = c.chain_of-chain.result in
    let here : arc_at arcs i ≡ c.arc.result = get_or_from_slice_get arcs i c.arc.result no_arc c.arc.ensures in
    let size : c.len.result ≡ length last = omega (arith, c.len.ensures) in
    let is : chain ≡ chain_of p.step (length last) (arc_at arcs i) = rw here (c.chain_of-chain.ensures.chain ∙ ap (λ n. chain_of p.step n c.arc.result) size) in
    let room : chain < length last = omega (arith, c.requires.chained.has_chain, c.len.ensures, c.chain_of-chain.ensures.inside) in
    let read : c.index.result.now ≡ get_or last chain 0 = get_or_read last chain c.index.result.now room c.index.ensures 0 in
    let items = c.in_ok-push.ensures.items in
    let so_many : length (p.before.items ++ get_or last chain 0 ∷ []) ≡ i + 1 = omega (arith, length_push p.before.items (get_or last chain 0), c.requires.next) in
    let now = chained_more p.step arcs last p.before.items i chain c.requires.inside is room (rw c.requires.next at c.requires.chained.linked) in
    record {
      has_chain = omega (arith, c.requires.chained.has_chain, length-set last chain (i + 1));
      within = rw (items, read) (omega (arith, so_many, c.requires.inside));
      linked = rw (items, read) (subst (λ n. AreLinked Tail (map (in_chain p.step (length (set last chain (i + 1)))) arcs) n (λ k. get_or (set last chain (i + 1)) k 0) (p.before.items ++ get_or last chain 0 ∷ [])) (sym so_many) now);
    }
