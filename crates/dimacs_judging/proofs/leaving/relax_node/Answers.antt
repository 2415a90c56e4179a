use Rattle.std.proofs.Common.{◌≡◌, ◌+◌, ◌-◌, ◌<◌, IfSome, Option, ℤ, ◌+ℤ◌, length, slice_index, ap, arith, rules, subst, sym, ◌∙◌}
use Rattle.std.proofs.{lemmas.Int.{to_z-of_z}, lemmas.Option.{get_or_from_slice_get}}
use Rattle.std.specs.Int.{w64, w128}
use Rattle.dimacs_records.specs.Ranges.{IsWide}
use Rattle.dimacs_network.specs.{declared.network.ArcView.{ArcView}, declared.adjacency_lists.Side.TheVariants.{Tail}}
use Rattle.dimacs_network.specs.{AdjacencyLists.{IsLast}, Arcs.{arc_at, no_arc}}
use Rattle.dimacs_claims.specs.Labels.{IsWithinRadius}
use Rattle.dimacs_judging.specs.{inside.Leaving.{IsRelaxedBy}, LightestArcs.{WeightsFall, arcs_in}}
use Rattle.dimacs_judging.specs.inside.NodeLabels.{entries}
use Rattle.dimacs_judging.proofs.LeavingLemmas.{AreRelaxedOn, no_reason, node_beyond, node_done, node_more, relaxed_still, relaxed_this}
use Rattle.dimacs_judging.proofs.{LeastLemmas.{at_place}, NodeLabelLemmas.{entries_after, entries_wide, label_wide}}
use Rattle.dimacs_judging.proofs.leaving.relax_node.Goals as goal

pub loop-next-init : goal.loop-next-init
loop-next-init g c =
    let chosen = arcs_in (g.N.Network.list c.args.network.now) c.args.lightest.now.order.items in
    let last : IsLast Tail chosen (length c.args.lightest.now.order.items) c.args.node c.last-next.result =
    subst (IsLast Tail chosen (length c.args.lightest.now.order.items) c.args.node) (sym c.last-next.ensures) (c.requires.lightest.linked.last_at c.args.node) in
    record {
      labelled = c.requires.labelled;
      keeps_relaxed = λ a is. is;
      within = last.within;
      found = last.found;
      relaxed = λ p after there here. absurd {A = IsRelaxedBy c.args.block.now (entries g.D.Distance.value c.args.node_labels.now) (arc_at chosen p)} (last.none_after p after there here);
    }

pub leads_past-requires : goal.leads_past-requires
leads_past-requires g c =
    let wide : IsWide c.args.from = subst (λ claimed. IfSome claimed IsWide) c.requires.label (label_wide c.requires.lawful.0 c.args.block.now c.args.node c.requires.lawful.1) in
    rw (to_z-of_z w128 c.args.from c.ranges.from) wide

pub returns-then-leads_past-clause-relaxed : goal.returns-then-leads_past-clause-relaxed
returns-then-leads_past-clause-relaxed g c = λ yes.
    let arcs = g.N.Network.list c.args.network.now in
    let order = c.args.lightest.now.order.items in
    let b = c.args.block.now in
    let is = c.loop-next.invariant in
    let at = entries g.D.Distance.value c.loop-next.node_labels in
    let node = c.args.node in
    let place = c.loop-next.next - 1 in
    let a = c.arc-arc.result in
    let inside : place < length order = omega (arith, c.loop-next-test.true, is.within) in
    let next_is : c.loop-next.next ≡ place + 1 = omega (arith, c.loop-next-test.true) in
    let same : arc_at (arcs_in arcs order) place ≡ a = at_place arcs order place inside ∙ (ap (arc_at arcs) (sym c.arc_at.ensures) ∙ get_or_from_slice_get arcs c.arc_at.result a no_arc c.arc-arc.ensures) in
    let fall : WeightsFall (arcs_in arcs order) = c.requires.lightest.fall (sym c.weights_fall.ensures ∙ c.if-weights_fall.true) in
    let far : ¬ IsWithinRadius c.radius-radius.result (c.args.from +ℤ a.cost) = rw (to_z-of_z w128 c.args.from c.ranges.from, to_z-of_z w64 a.cost (search rules)) at (c.leads_past.ensures c.if-leads_past.true) in
    let beyond : ¬ IsWithinRadius b.radius (c.args.from +ℤ (arc_at (arcs_in arcs order) place).cost) =
    subst (λ (z : ℤ). ¬ IsWithinRadius b.radius (c.args.from +ℤ z)) (ap (λ (c : ArcView). c.cost) (sym same)) (subst (λ (radius : Option ℤ). ¬ IsWithinRadius radius (c.args.from +ℤ a.cost)) c.radius-radius.ensures far) in
    let on : AreRelaxedOn arcs order b at node (place + 1) = subst (AreRelaxedOn arcs order b at node) next_is is.relaxed in
    node_done arcs order b at node is.labelled.entries c.requires.lightest.covering (node_beyond arcs order b at node c.requires.lawful.0 c.args.from place c.requires.lawful.1 is.labelled.entries c.requires.label fall inside beyond on)

pub relax-requires-clause-defaults : goal.relax-requires-clause-defaults
relax-requires-clause-defaults g c = c.loop-next.invariant.labelled.defaults

pub relax-requires-clause-in_range : goal.relax-requires-clause-in_range
relax-requires-clause-in_range g c = entries_wide c.requires.lawful.0 (g.N.Network.list c.args.network.now) c.args.block.now (entries g.D.Distance.value c.loop-next.node_labels) c.requires.lawful.1 c.loop-next.invariant.labelled.entries

pub returns-then-is_err-clause-labelled : goal.returns-then-is_err-clause-labelled
returns-then-is_err-clause-labelled g c =
    let value = g.D.Distance.value in
    record {
      defaults = c.relax.ensures.defaults;
      entries = entries_after c.arc-arc.result (entries value c.loop-next.node_labels) (entries value c.relax.new.node_labels) c.args.block.now c.relax.ensures.relaxes (g.N.Network.list c.args.network.now) c.loop-next.invariant.labelled.entries c.arc_at.result c.arc-arc.ensures;
    }

pub returns-then-is_err-clause-keeps_relaxed : goal.returns-then-is_err-clause-keeps_relaxed
returns-then-is_err-clause-keeps_relaxed g c = λ a relaxed.
    let value = g.D.Distance.value in
    relaxed_still c.arc-arc.result (entries value c.loop-next.node_labels) (entries value c.relax.new.node_labels) c.args.block.now c.relax.ensures.relaxes a (c.loop-next.invariant.keeps_relaxed a relaxed)

pub loop-next-preserved : goal.loop-next-preserved
loop-next-preserved g c =
    let arcs = g.N.Network.list c.args.network.now in
    let order = c.args.lightest.now.order.items in
    let chosen = arcs_in arcs order in
    let b = c.args.block.now in
    let is = c.loop-next.invariant in
    let old = entries g.D.Distance.value c.loop-next.node_labels in
    let new = entries g.D.Distance.value c.relax.new.node_labels in
    let relaxes = c.relax.ensures.relaxes in
    let node = c.args.node in
    let place = c.loop-next.next - 1 in
    let a = c.arc-arc.result in
    let inside : place < length order = omega (arith, c.loop-next-test.true, is.within) in
    let next_is : c.loop-next.next ≡ place + 1 = omega (arith, c.loop-next-test.true) in
    let same : arc_at chosen place ≡ a = at_place arcs order place inside ∙ (ap (arc_at arcs) (sym c.arc_at.ensures) ∙ get_or_from_slice_get arcs _ a no_arc c.arc-arc.ensures) in
    let here : (arc_at chosen place).tail ≡ node = is.found c.loop-next-test.true in
    let last : IsLast Tail chosen place node c.before-next.result = subst (IsLast Tail chosen place node) (sym c.before-next.ensures) (subst (λ v. IsLast Tail chosen place v (slice_index c.args.lightest.now.before.items place)) here (c.requires.lightest.linked.last_before place inside)) in
    let this = relaxed_this a old new b relaxes arcs _ c.arc-arc.ensures is.labelled.entries (no_reason _ c.relax.result (sym c.is_err.ensures.value ∙ c.if-is_err.false) c.relax.ensures.outcome) in
    let on : AreRelaxedOn arcs order b old node (place + 1) = subst (AreRelaxedOn arcs order b old node) next_is is.relaxed in
    record {
      labelled = record { defaults = c.relax.ensures.defaults; entries = entries_after a old new b relaxes arcs is.labelled.entries _ c.arc-arc.ensures };
      keeps_relaxed = λ d relaxed. relaxed_still a old new b relaxes d (is.keeps_relaxed d relaxed);
      within = omega (arith, last.within, inside);
      found = last.found;
      relaxed = node_more arcs order b new node place c.before-next.result last (subst (IsRelaxedBy b new) (sym same) this) (λ p after there at. relaxed_still a old new b relaxes (arc_at chosen p) (on p after there at));
    }

pub returns-clause-relaxed : goal.returns-clause-relaxed
returns-clause-relaxed g c = λ yes.
    let arcs = g.N.Network.list c.args.network.now in
    let none : c.loop-next.next ≡ 0 = omega (arith, c.loop-next-test.false) in
    let at = entries g.D.Distance.value c.loop-next.node_labels in
    node_done arcs _ c.args.block.now at c.args.node c.loop-next.invariant.labelled.entries c.requires.lightest.covering (subst (AreRelaxedOn arcs _ c.args.block.now at c.args.node) none c.loop-next.invariant.relaxed)
