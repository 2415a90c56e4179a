use Rattle.std.proofs.Common.{rules, ◌≡◌, ◌<◌, ◌∙◌, ℕ, pos, false, length, arith, add-one, ap, sym, subst, SFits, to_z, ◌+ℤ◌, ◌<ℤ◌}
use Rattle.std.proofs.{lemmas.Int.{ints, to_z-of_z}, lemmas.Bool.{false≢true}, lemmas.Option.{get_or_from_slice_get}}
use Rattle.std.specs.Int.{w128}
use Rattle.dimacs_network.specs.{declared.network.ArcView.{ArcView}, Arcs.{arc_at, no_arc}, Tables.{value_of}}
use Rattle.dimacs_decide.specs.inside.Cycles.{LeadsFrom, ending_of, gain_after, gain_of, node_after, residual_at}
use Rattle.dimacs_decide.specs.inside.Heights.{gain_at}
use Rattle.dimacs_decide.proofs.HeightLemmas.{arc_bounds, gain_least, gain_most}
use Rattle.dimacs_decide.proofs.CycleLemmas.{gain_size, reached_more, walk_more}
use Rattle.dimacs_decide.proofs.cycle.is_saving.Goals as goal

pub overflow_add-saved : goal.overflow_add-saved
overflow_add-saved g c =
    let arcs = g.N.Network.list c.args.network.now in
    let x = c.args.flow.now in
    let cycle = c.args.cycle.now in
    let j = c.loop-j.j in
    let r = residual_at cycle j in
    let leads : LeadsFrom arcs x c.loop-j.at r = c.leads_from.ensures (search rules) in
    let is : arc_at arcs r.arc ≡ c.arc.result = get_or_from_slice_get arcs r.arc c.arc.result no_arc c.arc.ensures in
    let gains : c.gain-saved.result ≡ gain_of arcs r = c.gain-saved.ensures ∙ ap (λ (a : ArcView). gain_at r.side a) (sym is) in
    let has = arc_bounds arcs r.arc c.requires.bounds leads.within in
    let least = gain_least r.side (arc_at arcs r.arc) has in
    let most = gain_most r.side (arc_at arcs r.arc) has in
    let size = gain_size arcs x cycle j c.requires.bounds c.loop-j.invariant.walked in
    rw (to_z-of_z w128 c.gain-saved.result (search rules)) (omega (arith, ints, size.0, size.1, c.loop-j.invariant.saved, gains, least, most, c.loop-j-test.true, c.if-count-nodes.false, c.requires.node_limit, c.nodes.ensures))

pub loop-j-preserved : goal.loop-j-preserved
loop-j-preserved g c =
    let arcs = g.N.Network.list c.args.network.now in
    let x = c.args.flow.now in
    let cycle = c.args.cycle.now in
    let j = c.loop-j.j in
    let r = residual_at cycle j in
    let now = c.loop-j.invariant in
    let leads : LeadsFrom arcs x c.loop-j.at r = c.leads_from.ensures (search rules) in
    let here : LeadsFrom arcs x (node_after arcs cycle j) r = subst (λ m. LeadsFrom arcs x m r) now.at leads in
    let to : c.ending-at-in-loop-j.result ≡ ending_of arcs r = c.ending-at-in-loop-j.ensures in
    let free : value_of c.loop-j.reached (ending_of arcs r) ≡ false = ap (value_of c.loop-j.reached) (sym to) ∙ sym c.get.ensures.value ∙ c.if-get.false in
    let fresh : (i : ℕ) → i < j → ending_of arcs (residual_at cycle i) ≡ ending_of arcs r → ⊥ = λ i h q. false≢true (sym free ∙ ap (value_of c.loop-j.reached) (sym q) ∙ now.reached i h) in
    let set = rw to at c.in_ok-set.ensures.set in
    let others = rw to at c.in_ok-set.ensures.others in
    let is : arc_at arcs r.arc ≡ c.arc.result = get_or_from_slice_get arcs r.arc c.arc.result no_arc c.arc.ensures in
    let gains : c.gain-saved.result ≡ gain_of arcs r = c.gain-saved.ensures ∙ ap (λ (a : ArcView). gain_at r.side a) (sym is) in
    let fits : SFits w128 c.gain-saved.result = search rules in
    let fits_sum : SFits w128 (to_z w128 c.loop-j.saved-bits +ℤ c.gain-saved.result) = rw (to_z-of_z w128 c.gain-saved.result fits) at (overflow_add-saved g c) in
    record {
      walked = walk_more arcs x cycle j now.walked here fresh;
      at = rw (add-one j) to;
      reached = reached_more arcs x cycle j (value_of c.loop-j.reached) (value_of c.set.new.self) now.reached free set others;
      saved = rw (to_z-of_z w128 c.gain-saved.result fits, to_z-of_z w128 (to_z w128 c.loop-j.saved-bits +ℤ c.gain-saved.result) fits_sum, add-one j) (omega (arith, ints, now.saved, gains));
    }

pub returns : goal.returns
returns g c = λ some.
    let all : c.loop-j.j ≡ length c.args.cycle.now = omega (arith, c.loop-j-test.false, c.loop-j.auto.j-end) in
    let more : pos 0 <ℤ to_z w128 c.loop-j.saved-bits = search rules in
    record {
      walked = rw all at c.loop-j.invariant.walked;
      gain = let gains : pos 0 <ℤ gain_after (g.N.Network.list c.args.network.now) c.args.cycle.now c.loop-j.j = omega (arith, ints, more, c.loop-j.invariant.saved) in rw all at gains;
    }
