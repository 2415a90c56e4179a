use Rattle.std.proofs.Common.{◌≤◌, arith, length}
use Rattle.dimacs_judging.specs.inside.NodeLabels.{entries}
use Rattle.dimacs_judging.proofs.NodeLabelLemmas.{entries_after, entries_wide, supported_after, supported_all}
use Rattle.dimacs_judging.proofs.node_labels.relax_rest.Goals as goal

pub relax-outcome-requires-clause-in_range : goal.relax-outcome-requires-clause-in_range
relax-outcome-requires-clause-in_range g c = entries_wide c.requires.lawful.0 (g.N.Network.list c.args.network.now) c.args.block.now (entries g.D.Distance.value c.loop-i.node_labels) c.requires.lawful.1 c.loop-i.invariant.labelled.entries

pub loop-i-preserved : goal.loop-i-preserved
loop-i-preserved g c =
    let arcs = g.N.Network.list c.args.network.now in
    let b = c.args.block.now in
    let is = c.loop-i.invariant in
    let a = c.arc.result in
    let value = g.D.Distance.value in
    let old = entries value c.loop-i.node_labels in
    let new = entries value c.relax-outcome.new.node_labels in
    let relaxes = c.relax-outcome.ensures.relaxes in
    record {
      labelled = record { defaults = c.relax-outcome.ensures.defaults; entries = entries_after a old new b relaxes arcs is.labelled.entries c.loop-i.i c.arc.ensures };
      supported = supported_after a old new b relaxes arcs is.labelled.entries c.loop-i.i c.arc.ensures is.supported;
    }

pub returns-clause-supported : goal.returns-clause-supported
returns-clause-supported g c =
    let arcs = g.N.Network.list c.args.network.now in
    let all : length arcs ≤ c.loop-i.i = omega (arith, c.loop-i-test.false, c.arcs-i-end.ensures) in
    supported_all arcs c.args.block.now (entries g.D.Distance.value c.loop-i.node_labels) c.loop-i.invariant.labelled.entries.sound (λ k inside. c.loop-i.invariant.supported k (omega (arith, inside, all)))
