use Rattle.std.proofs.{Common.{◌≡◌, ◌-◌, ◌<◌, false, length, arith, ap, sym, subst, ◌∙◌}, lemmas.List.{get_or_read}}
use Rattle.std.proofs.lemmas.Option.{get_or_from_slice_get}
use Rattle.std.specs.Prelude.{slice_index}
use Rattle.dimacs_network.specs.{declared.adjacency_lists.Side.TheVariants.{Tail}, Arcs.{joins, arc_at, no_arc}}
use Rattle.dimacs_network.specs.AdjacencyLists.{IsLast, end_at}
use Rattle.dimacs_judging.specs.inside.ArcChains.{by_chain}
use Rattle.dimacs_judging.proofs.ArcChainLemmas.{NoneFrom, none_from, none_from_before, first_found}
use Rattle.dimacs_judging.proofs.arc_chains.ArcChains.is_first.Goals as goal

pub loop-init : goal.loop-init
loop-init g c =
    let arcs = g.N.Network.list c.args.network.now in
    let p = c.args.self.now in
    let arc = c.args.arc in
    let n = c.index-before.result.now in
    let inside : arc < length arcs = omega (arith, c.requires.arc, c.requires.chained.within) in
    let read : slice_index p.before.items arc ≡ n = sym (get_or_read p.before.items arc n c.requires.arc c.index-before.ensures 0) in
    let last : IsLast Tail (by_chain p arcs) arc (end_at Tail (by_chain p arcs) arc) n = subst (IsLast Tail (by_chain p arcs) arc (end_at Tail (by_chain p arcs) arc)) read (c.requires.chained.linked.last_before arc c.requires.arc) in
    record { within = last.within; found = last.found; none = none_from p.step (length p.last.items) arcs c.args.entry.tail c.args.entry.head arc inside c.requires.joins n last }

pub returns-then-before-eq0 : goal.returns-then-before-eq0
returns-then-before-eq0 g c = λ yes.
    let arcs = g.N.Network.list c.args.network.now in
    let p = c.args.self.now in
    let e = c.args.entry in
    let inside : c.args.arc < length arcs = omega (arith, c.requires.arc, c.requires.chained.within) in
    let none : c.loop.before ≡ 0 = omega (arith, c.if-before-eq0.true) in
    first_found p.step (length p.last.items) arcs e.tail e.head c.args.arc inside c.requires.joins (subst (NoneFrom p.step (length p.last.items) arcs e.tail e.head c.args.arc) none c.loop.invariant.none)

pub loop-preserved : goal.loop-preserved
loop-preserved g c =
    let arcs = g.N.Network.list c.args.network.now in
    let p = c.args.self.now in
    let e = c.args.entry in
    let arc = c.args.arc in
    let is = c.loop.invariant in
    let from = c.loop.before in
    let n = c.index-before-in-loop.result.now in
    let inside : arc < length arcs = omega (arith, c.requires.arc, c.requires.chained.within) in
    let some : 0 < from = omega (arith, c.if-before-eq0.false) in
    let below : from - 1 < length p.before.items = omega (arith, some, is.within, c.requires.arc) in
    let read : slice_index p.before.items (from - 1) ≡ n = sym (get_or_read p.before.items (from - 1) n below c.index-before-in-loop.ensures 0) in
    let linked = subst (λ t. IsLast Tail (by_chain p arcs) (from - 1) t (slice_index p.before.items (from - 1))) (is.found some) (c.requires.chained.linked.last_before (from - 1) below) in
    let last : IsLast Tail (by_chain p arcs) (from - 1) (end_at Tail (by_chain p arcs) arc) n = subst (IsLast Tail (by_chain p arcs) (from - 1) (end_at Tail (by_chain p arcs) arc)) read linked in
    let same : arc_at arcs (from - 1) ≡ c.arc.result = get_or_from_slice_get arcs (from - 1) c.arc.result no_arc c.arc.ensures in
    let off : joins e.tail e.head (arc_at arcs (from - 1)) ≡ false = ap (joins e.tail e.head) same ∙ (sym c.has_ends.ensures ∙ c.if-has_ends.false) in
    record {
      within = omega (arith, last.within, is.within);
      found = last.found;
      none = none_from_before p.step (length p.last.items) arcs e.tail e.head arc inside c.requires.joins from n some is.within last off is.none;
    }
