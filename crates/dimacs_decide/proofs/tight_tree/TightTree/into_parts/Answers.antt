use Rattle.std.proofs.Common.{◌≡◌, ◌≤◌, length, get_or, ap}
use Rattle.dimacs_network.specs.Tables.{value_of}
use Rattle.dimacs_claims.specs.{declared.label_list.Label.{Label}, Labels.{no_label}}
use Rattle.dimacs_decide.proofs.FewLemmas.{left_more, left_source, none_left}
use Rattle.dimacs_decide.proofs.tight_tree.TightTree.into_parts.Goals as goal

pub loop-i-init : goal.loop-i-init
loop-i-init c = left_source c.args.self.block (value_of c.args.self.reached) (value_of c.set.new.self) c.source.result c.source.ensures c.requires c.in_ok-set.ensures.set c.in_ok-set.ensures.others

pub loop-i-preserved : goal.loop-i-preserved
loop-i-preserved c =
    let b = c.args.self.block in
    let id : c.at.result.id ≡ (get_or b.labels c.loop-i.i no_label).id = ap (λ (l : Label). l.id) (rw c.labels-labels.ensures at c.at.ensures) in
    left_more b (value_of c.loop-i.reached) (value_of c.set-in-loop-i.new.self) c.loop-i.i c.at.result.id id c.loop-i.invariant c.in_ok-set-2.ensures.set c.in_ok-set-2.ensures.others

pub returns-clause-unreached : goal.returns-clause-unreached
returns-clause-unreached c =
    let b = c.args.self.block in
    let all : length b.labels ≤ c.loop-i.i = rw (c.len-i-end.ensures, c.labels-labels.ensures) at c.loop-i-test.false in
    none_left b (value_of c.loop-i.reached) c.loop-i.i all c.loop-i.invariant
