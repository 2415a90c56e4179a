use Rattle.std.proofs.Common.{◌≡◌, ◌≤◌, ◌<◌, Some, length, get_or, ◌∙◌, ap, arith}
use Rattle.dimacs_claims.specs.{declared.label_list.Label.{Label}, Labels.{IsLabel, no_label}}
use Rattle.dimacs_judging.specs.inside.NodeLabels.{is_supported, entries, entry_of}
use Rattle.dimacs_judging.proofs.NodeLabelLemmas.{all_labelled, defaults_still, labelled_source, labelled_more, unsupported_below}
use Rattle.dimacs_judging.proofs.node_labels.set_labels.Goals as goal

pub loop-i-init : goal.loop-i-init
loop-i-init g c =
    let value = g.D.Distance.value in
    let e = c.in_ok-set.ensures in
    let here = rw c.source.ensures at e.set in
    record {
      defaults = defaults_still value c.args.node_labels.now c.set.new.self e.same_blank c.requires.unlabelled.defaults;
      first = labelled_source _ (entries value c.args.node_labels.now) (entries value c.set.new.self) c.requires.unlabelled.all (λ v off. ap (entry_of value) (rw c.source.ensures at e.others v off)) (ap (λ m. value m.dist) here ∙ c.of_source.ensures.dist) (ap (λ m. is_supported (entry_of value m)) here ∙ c.of_source.ensures.supported);
    }

pub of-requires : goal.of-requires
of-requires g c =
    let inside : c.loop-i.i < length c.args.block.now.labels = rw (c.len-i-end.ensures, c.labels-labels.ensures) at c.loop-i-test.true in
    rw (c.at-label.ensures, c.labels-labels.ensures) (c.requires.fits c.loop-i.i no_label inside)

pub loop-i-preserved : goal.loop-i-preserved
loop-i-preserved g c =
    let value = g.D.Distance.value in
    let e = c.in_ok-set-2.ensures in
    let b = c.args.block.now in
    let is : c.at-label.result ≡ get_or b.labels c.loop-i.i no_label = rw c.labels-labels.ensures at c.at-label.ensures in
    let inside : c.loop-i.i < length b.labels = rw (c.len-i-end.ensures, c.labels-labels.ensures) at c.loop-i-test.true in
    let here = rw is at e.set in
    let lawful = c.requires.lawful in
    let dist = ap (λ m. value m.dist) here ∙ (c.of.ensures.dist ∙ ap (λ (x : Label). Some x.dist) is) in
    let pred = ap (λ m. m.pred) here ∙ (c.of.ensures.pred ∙ ap (λ (x : Label). x.pred) is) in
    let within : IsLabel lawful.0 (get_or b.labels c.loop-i.i no_label) = lawful.2.within c.loop-i.i no_label inside in
    record {
      defaults = defaults_still value c.loop-i.node_labels c.set-in-loop-i.new.self e.same_blank c.loop-i.invariant.defaults;
      first = labelled_more lawful.0 b c.loop-i.i (entries value c.loop-i.node_labels) (entries value c.set-in-loop-i.new.self) lawful.2 inside c.loop-i.invariant.first (λ v off. ap (entry_of value) (rw is at e.others v off)) dist pred (unsupported_below (entries value c.set-in-loop-i.new.self (get_or b.labels c.loop-i.i no_label).id) (omega (arith, pred, within.pred.1, lawful.1)));
    }

pub returns : goal.returns
returns g c = λ arcs.
    let all : length c.args.block.now.labels ≤ c.loop-i.i = rw (c.len-i-end.ensures, c.labels-labels.ensures) at c.loop-i-test.false in
    record {
      defaults = c.loop-i.invariant.defaults;
      entries = all_labelled c.requires.lawful.0 arcs c.args.block.now c.loop-i.i (entries g.D.Distance.value c.loop-i.node_labels) c.requires.lawful.2 all c.loop-i.invariant.first;
    }
