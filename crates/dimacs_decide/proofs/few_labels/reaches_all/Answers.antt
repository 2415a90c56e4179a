use Rattle.std.proofs.Common.{◌≡◌, ◌≤◌, length, get_or, ap, sym}
use Rattle.dimacs_network.specs.Tables.{value_of}
use Rattle.dimacs_claims.specs.{declared.label_list.Label.{Label}, Labels.{no_label}}
use Rattle.dimacs_decide.proofs.FewLemmas.{all_reached, reached_more}
use Rattle.dimacs_decide.proofs.few_labels.reaches_all.Goals as goal

pub loop-i-preserved : goal.loop-i-preserved
loop-i-preserved c =
    let b = c.args.claimed.now in
    let id : c.at.result.id ≡ (get_or b.labels c.loop-i.i no_label).id = ap (λ (l : Label). l.id) (rw c.labels-labels.ensures at c.at.ensures) in
    reached_more b (value_of c.args.tree.now.reached) c.loop-i.i c.at.result.id id (sym c.if-not-reaches.ensures) c.loop-i.invariant

pub returns : goal.returns
returns c = λ yes nodes.
    let b = c.args.claimed.now in
    let all : length b.labels ≤ c.loop-i.i = rw (c.len-i-end.ensures, c.labels-labels.ensures) at c.loop-i-test.false in
    all_reached nodes b (value_of c.args.tree.now.reached) c.loop-i.i c.requires all c.loop-i.invariant
