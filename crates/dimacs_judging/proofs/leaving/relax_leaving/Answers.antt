use Rattle.std.proofs.{Common.{◌≡◌, ◌<◌, Some, length, get_or, refl, ap, ◌∙◌, rules, arith}, lemmas.Int.{to_z-of_z}}
use Rattle.std.proofs.lemmas.List.Elements.{Contains-get_or}
use Rattle.std.specs.Int.{w128}
use Rattle.dimacs_claims.specs.{declared.label_list.Label.{Label}, Labels.{label, no_label}}
use Rattle.dimacs_judging.specs.{inside.Leaving.{AreRelaxedFrom}, inside.NodeLabels.{entries}}
use Rattle.dimacs_judging.proofs.LeavingLemmas.{all_clear, all_supported, from_still, labels_more}
use Rattle.dimacs_judging.proofs.NodeLabelLemmas.{label_source}
use Rattle.dimacs_judging.proofs.leaving.relax_leaving.Goals as goal

pub relax_node-requires-clause-label : goal.relax_node-requires-clause-label
relax_node-requires-clause-label g c = ap (label c.args.block.now) c.source.ensures ∙ label_source c.args.block.now

pub relax_node-requires-in-loop-i-clause-label : goal.relax_node-requires-in-loop-i-clause-label
relax_node-requires-in-loop-i-clause-label g c =
    let b = c.args.block.now in
    let n = c.loop-i.i in
    let l = c.at-label.result in
    let is : l ≡ get_or b.labels n no_label = rw c.labels-labels.ensures at c.at-label.ensures in
    let inside : n < length b.labels = rw (c.len-i-end.ensures, c.labels-labels.ensures) at c.loop-i-test.true in
    let named : label b (get_or b.labels n no_label).id ≡ Some (get_or b.labels n no_label).dist = c.loop-i.invariant.relaxed.entries.named (get_or b.labels n no_label) (Contains-get_or b.labels n no_label inside) in
    rw (to_z-of_z w128 l.dist (search rules), is) named

pub loop-i-init : goal.loop-i-init
loop-i-init g c =
    let e = c.if-not-relax_node.ensures in
    record {
      defaults = e.labelled.defaults;
      relaxed = record {
        entries = e.labelled.entries;
        source = rw c.source.ensures at (e.relaxed refl);
        labels = λ k below. absurd (omega (arith, below));
      };
    }

pub loop-i-preserved : goal.loop-i-preserved
loop-i-preserved g c =
    let arcs = g.N.Network.list c.args.network.now in
    let b = c.args.block.now in
    let labels = c.labels-labels.ensures in
    let n = c.loop-i.i in
    let id : c.at-label.result.id ≡ (get_or b.labels n no_label).id = ap (λ (l : Label). l.id) (rw labels at c.at-label.ensures) in
    let e = c.if-not-relax_node-2.ensures in
    let old = entries g.D.Distance.value c.loop-i.node_labels in
    let new = entries g.D.Distance.value c.relax_node-in-loop-i.new.node_labels in
    let this : AreRelaxedFrom arcs b new (get_or b.labels n no_label).id = rw id at (e.relaxed refl) in
    record {
      defaults = e.labelled.defaults;
      relaxed = record {
        entries = e.labelled.entries;
        source = from_still arcs b old new b.source e.keeps_relaxed c.loop-i.invariant.relaxed.source;
        labels = labels_more arcs b old new n e.keeps_relaxed c.loop-i.invariant.relaxed.labels this;
      };
    }

pub returns-clause-supported : goal.returns-clause-supported
returns-clause-supported g c = λ yes. all_supported (g.N.Network.list c.args.network.now) c.args.block.now c.loop-i.i (entries g.D.Distance.value c.loop-i.node_labels) (rw (c.len-i-end.ensures, c.labels-labels.ensures) at c.loop-i-test.false) c.loop-i.invariant.relaxed

pub returns-clause-clear : goal.returns-clause-clear
returns-clause-clear g c = λ yes. all_clear (g.N.Network.list c.args.network.now) c.args.block.now c.loop-i.i (entries g.D.Distance.value c.loop-i.node_labels) (rw (c.len-i-end.ensures, c.labels-labels.ensures) at c.loop-i-test.false) c.loop-i.invariant.relaxed
