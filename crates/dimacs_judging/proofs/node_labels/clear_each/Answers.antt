use Rattle.std.proofs.Common.{◌≡◌, ◌≤◌, length, get_or, ◌∙◌, ap}
use Rattle.dimacs_claims.specs.{declared.label_list.Label.{Label}, Labels.{no_label}}
use Rattle.dimacs_judging.specs.inside.NodeLabels.{entries, entry_of}
use Rattle.dimacs_judging.proofs.NodeLabelLemmas.{unlabelled_all, defaults_still, unlabelled_more, unlabelled_source}
use Rattle.dimacs_judging.proofs.node_labels.clear_each.Goals as goal

pub loop-i-init : goal.loop-i-init
loop-i-init g c =
    let value = g.D.Distance.value in
    let e = c.in_ok-set.ensures in
    let here = rw c.source.ensures at e.set in
    let labelled = c.requires.1 in
    record {
      defaults = defaults_still value c.args.node_labels.now c.set.new.self e.same_blank labelled.defaults;
      others = unlabelled_source c.requires.0 c.args.block.now (entries value c.args.node_labels.now) (entries value c.set.new.self) labelled.entries (λ v off. ap (entry_of value) (rw c.source.ensures at e.others v off)) (ap (λ m. value m.dist) here ∙ c.none.ensures);
    }

pub loop-i-preserved : goal.loop-i-preserved
loop-i-preserved g c =
    let value = g.D.Distance.value in
    let e = c.in_ok-set-2.ensures in
    let b = c.args.block.now in
    let id : c.at.result.id ≡ (get_or b.labels c.loop-i.i no_label).id = ap (λ (l : Label). l.id) (rw c.labels-labels.ensures at c.at.ensures) in
    let here = rw id at e.set in
    record {
      defaults = defaults_still value c.loop-i.node_labels c.set-in-loop-i.new.self e.same_blank c.loop-i.invariant.defaults;
      others = unlabelled_more b c.loop-i.i (entries value c.loop-i.node_labels) (entries value c.set-in-loop-i.new.self) c.loop-i.invariant.others (λ v off. ap (entry_of value) (rw id at e.others v off)) (ap (λ m. value m.dist) here ∙ c.none-in-loop-i.ensures);
    }

pub returns : goal.returns
returns g c =
    let all : length c.args.block.now.labels ≤ c.loop-i.i = rw (c.len-i-end.ensures, c.labels-labels.ensures) at c.loop-i-test.false in
    record {
      defaults = c.loop-i.invariant.defaults;
      all = unlabelled_all c.args.block.now c.loop-i.i (entries g.D.Distance.value c.loop-i.node_labels) all c.loop-i.invariant.others;
    }
