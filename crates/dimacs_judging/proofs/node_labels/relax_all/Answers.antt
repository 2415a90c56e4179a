use Rattle.std.proofs.Common.{◌≡◌, ◌≤◌, ◌+◌, arith, length, sym, Err}
use Rattle.dimacs_judging.specs.{declared.verdict.Where.TheVariants.{Arc}, inside.NodeLabels.{entries}}
use Rattle.dimacs_judging.proofs.NodeLabelLemmas.{all_counted, both_tests, labels_tests, count_on, clear_after, first_after, entries_after, entries_wide, supported_after, supported_all}
use Rattle.dimacs_judging.proofs.RowLemmas.{arc_clear_end}
use Rattle.dimacs_judging.proofs.node_labels.relax_all.Goals as goal

pub relax-requires-clause-in_range : goal.relax-requires-clause-in_range
relax-requires-clause-in_range g c = entries_wide c.requires.lawful.0 (g.N.Network.list c.args.network.now) c.args.block.now (entries g.D.Distance.value c.loop-i.node_labels) c.requires.lawful.1 c.loop-i.invariant.labelled.entries

pub loop-i-preserved : goal.loop-i-preserved
loop-i-preserved g c =
    let arcs = g.N.Network.list c.args.network.now in
    let b = c.args.block.now in
    let is = c.loop-i.invariant in
    let a = c.arc.result in
    let value = g.D.Distance.value in
    let old = entries value c.loop-i.node_labels in
    let new = entries value c.relax.new.node_labels in
    let relaxes = c.relax.ensures.relaxes in
    let i = c.loop-i.i in
    let outcome = rw c.in-Ok.is at c.relax.ensures.outcome in
    let tight = rw c.in-Ok.is at c.relax.ensures.tight in
    record {
      labelled = record { defaults = c.relax.ensures.defaults; entries = entries_after a old new b relaxes arcs is.labelled.entries i c.arc.ensures };
      supported = supported_after a old new b relaxes arcs is.labelled.entries i c.arc.ensures is.supported;
      count = count_on a old new b relaxes arcs is.labelled.entries c.in-Ok.tight c.loop-i.count c.from-count.result tight.0 is.count c.from-count.ensures;
      clear = clear_after a old new b relaxes arcs is.labelled.entries i c.arc.ensures is.clear outcome;
    }

pub relax_rest-requires-clause-labelled : goal.relax_rest-requires-clause-labelled
relax_rest-requires-clause-labelled g c =
    let value = g.D.Distance.value in
    record {
      defaults = c.relax.ensures.defaults;
      entries = entries_after c.arc.result (entries value c.loop-i.node_labels) (entries value c.relax.new.node_labels) c.args.block.now c.relax.ensures.relaxes (g.N.Network.list c.args.network.now) c.loop-i.invariant.labelled.entries c.loop-i.i c.arc.ensures;
    }

pub relax_rest-requires-clause-supported : goal.relax_rest-requires-clause-supported
relax_rest-requires-clause-supported g c =
    let value = g.D.Distance.value in
    supported_after c.arc.result (entries value c.loop-i.node_labels) (entries value c.relax.new.node_labels) c.args.block.now c.relax.ensures.relaxes (g.N.Network.list c.args.network.now) c.loop-i.invariant.labelled.entries c.loop-i.i c.arc.ensures c.loop-i.invariant.supported

pub returns-in-Err-clause-tests : goal.returns-in-Err-clause-tests
returns-in-Err-clause-tests g c =
    let arcs = g.N.Network.list c.args.network.now in
    let b = c.args.block.now in
    let is = c.loop-i.invariant in
    let value = g.D.Distance.value in
    let outcome = rw c.in-Err.is at c.relax.ensures.outcome in
    let first = first_after c.arc.result (entries value c.loop-i.node_labels) (entries value c.relax.new.node_labels) b c.relax.ensures.relaxes arcs is.labelled.entries c.loop-i.i c.arc.ensures c.in-Err.reason is.clear outcome in
    let supported = c.labels_supported.ensures arcs b (sym c.labels-labels.ensures) c.relax_rest.ensures.supported in
    rw c.and.ensures (both_tests arcs b c.labels_supported.result (Err (Arc (c.loop-i.i + 1), c.in-Err.reason)) supported first)

pub returns-then-count-len-clause-tests : goal.returns-then-count-len-clause-tests
returns-then-count-len-clause-tests g c =
    let arcs = g.N.Network.list c.args.network.now in
    let b = c.args.block.now in
    let is = c.loop-i.invariant in
    let all : length arcs ≤ c.loop-i.i = omega (arith, c.loop-i-test.false, c.arcs-i-end.ensures) in
    let supported = supported_all arcs b (entries g.D.Distance.value c.loop-i.node_labels) is.labelled.entries.sound (λ k inside. is.supported k (omega (arith, inside, all))) in
    labels_tests arcs b c.labels_supported-then-count-len.result (c.labels_supported-then-count-len.ensures arcs b (sym c.labels-labels.ensures) supported) (arc_clear_end arcs _ c.loop-i.i all is.clear)

pub returns-clause-tests : goal.returns-clause-tests
returns-clause-tests g c =
    let arcs = g.N.Network.list c.args.network.now in
    let b = c.args.block.now in
    let is = c.loop-i.invariant in
    let all : length arcs ≤ c.loop-i.i = omega (arith, c.loop-i-test.false, c.arcs-i-end.ensures) in
    let size : c.len.result ≡ length b.labels = rw c.labels-labels.ensures at c.len.ensures in
    (all_counted arcs b (entries g.D.Distance.value c.loop-i.node_labels) is.labelled.entries.sound (omega (arith, is.count, size, c.if-count-len.false)), (arc_clear_end arcs _ c.loop-i.i all is.clear, tt))
