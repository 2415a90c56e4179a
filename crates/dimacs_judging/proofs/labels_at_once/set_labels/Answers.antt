use Rattle.std.proofs.{Common.{◌≡◌, ◌≤◌, ◌<◌, Some, length, get_or, ◌∙◌, ap, arith, pos, rules}, lemmas.Int.{ints}}
use Rattle.dimacs_claims.specs.{declared.label_list.Label.{Label}, Labels.{IsLabel, no_label}}
use Rattle.dimacs_judging.specs.{inside.LabelsAtOnce.{entries_at}, inside.NodeLabels.{entry_of, is_supported}}
use Rattle.dimacs_judging.specs.Distances.{below}
use Rattle.dimacs_judging.proofs.LabelsAtOnce.{is_none_number, is_small_number, none_from, small_all, small_set}
use Rattle.dimacs_judging.proofs.NodeLabelLemmas.{all_labelled, labelled_more, labelled_source, unsupported_below}
use Rattle.dimacs_judging.proofs.labels_at_once.set_labels.Goals as goal

pub loop-i-init : goal.loop-i-init
loop-i-init c =
    let value = below none_from in
    let b = c.args.block.now in
    let blank = c.none.ensures in
    let here = rw c.source-2.ensures at c.set.ensures.set in
    let others = rw c.source-2.ensures at c.set.ensures.others in
    let all = c.fill.ensures.values in
    record {
      first = labelled_source b (entries_at c.fill.new.self) (entries_at c.set.new.self) (λ v. ap (λ m. value m.dist) (all v) ∙ blank) (λ v off. ap (entry_of value) (others v off)) (ap (λ m. value m.dist) here ∙ c.of_source.ensures.dist) (ap (λ m. is_supported (entry_of value m)) here ∙ c.of_source.ensures.supported);
      small = small_set b.source c.of_source.result c.fill.new.self c.set.new.self here others (is_small_number c.of_source.result.dist (pos 0) c.of_source.ensures.dist (omega (arith, ints))) (small_all c.fill.new.self c.none.result all (is_none_number c.none.result.dist blank (search rules)));
      nodes = omega (arith, c.fill.ensures.nodes, c.set.ensures.nodes);
    }

pub of-requires : goal.of-requires
of-requires c =
    let inside : c.loop-i.i < length c.args.block.now.labels = rw (c.len-i-end.ensures, c.labels-labels.ensures) at c.loop-i-test.true in
    rw (c.at-label.ensures, c.labels-labels.ensures) (c.requires.fits c.loop-i.i no_label inside)

pub loop-i-preserved : goal.loop-i-preserved
loop-i-preserved c =
    let value = below none_from in
    let e = c.set-in-loop-i.ensures in
    let b = c.args.block.now in
    let l = c.at-label.result in
    let is : l ≡ get_or b.labels c.loop-i.i no_label = rw c.labels-labels.ensures at c.at-label.ensures in
    let inside : c.loop-i.i < length b.labels = rw (c.len-i-end.ensures, c.labels-labels.ensures) at c.loop-i-test.true in
    let here = rw is at e.set in
    let others = rw is at e.others in
    let lawful = c.requires.lawful in
    let dist = ap (λ m. value m.dist) here ∙ (c.of.ensures.dist ∙ ap (λ (x : Label). Some x.dist) is) in
    let pred = ap (λ m. m.pred) here ∙ (c.of.ensures.pred ∙ ap (λ (x : Label). x.pred) is) in
    let within : IsLabel lawful.0 (get_or b.labels c.loop-i.i no_label) = lawful.2.within c.loop-i.i no_label inside in
    record {
      first = labelled_more lawful.0 b c.loop-i.i (entries_at c.loop-i.table) (entries_at c.set-in-loop-i.new.self) lawful.2 inside c.loop-i.invariant.first (λ v off. ap (entry_of value) (others v off)) dist pred (unsupported_below (entries_at c.set-in-loop-i.new.self (get_or b.labels c.loop-i.i no_label).id) (omega (arith, pred, within.pred.1, lawful.1)));
      small = small_set l.id c.of.result c.loop-i.table c.set-in-loop-i.new.self e.set e.others (is_small_number c.of.result.dist l.dist c.of.ensures.dist (search rules)) c.loop-i.invariant.small;
      nodes = omega (arith, c.loop-i.invariant.nodes, e.nodes);
    }

pub returns-clause-labelled : goal.returns-clause-labelled
returns-clause-labelled c = λ yes arcs.
    let all : length c.args.block.now.labels ≤ c.loop-i.i = rw (c.len-i-end.ensures, c.labels-labels.ensures) at c.loop-i-test.false in
    all_labelled c.requires.lawful.0 arcs c.args.block.now c.loop-i.i (entries_at c.loop-i.table) c.requires.lawful.2 all c.loop-i.invariant.first
