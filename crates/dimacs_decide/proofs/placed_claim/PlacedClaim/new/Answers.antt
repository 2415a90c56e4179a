use Rattle.std.proofs.Common.{◌≡◌, ◌<◌, ◌≤◌, length, get_or, ap, arith}
use Rattle.dimacs_network.specs.Tables.{value_of}
use Rattle.dimacs_claims.specs.{declared.label_list.Label.{Label}, Labels.{no_label}}
use Rattle.dimacs_decide.proofs.FewLemmas.{all_named, all_wide, placed_more}
use Rattle.dimacs_decide.proofs.placed_claim.PlacedClaim.new.Goals as goal

pub loop-i-preserved : goal.loop-i-preserved
loop-i-preserved c =
    let b = c.args.block.now in
    let inside : c.loop-i.i < length b.labels = rw (c.len-i-end.ensures, c.labels-labels.ensures) at c.loop-i-test.true in
    let id : c.at.result.id ≡ (get_or b.labels c.loop-i.i no_label).id = ap (λ (l : Label). l.id) (rw c.labels-labels.ensures at c.at.ensures) in
    placed_more c.requires.0 b c.loop-i.i c.at.result.id (value_of c.loop-i.places) (value_of c.set.new.self) c.requires.1 inside id c.loop-i.invariant c.in_ok-set.ensures.set c.in_ok-set.ensures.others

pub overflow_cast-i : goal.overflow_cast-i
overflow_cast-i c =
    let inside : c.loop-i.i < length c.args.block.now.labels = rw (c.len-i-end.ensures, c.labels-labels.ensures) at c.loop-i-test.true in
    omega (arith, inside, c.requires.1.few)

pub invariant_of-result : goal.invariant_of-result
invariant_of-result c =
    let all : length c.args.block.now.labels ≤ c.loop-i.i = rw (c.len-i-end.ensures, c.labels-labels.ensures) at c.loop-i-test.false in
    record { wide = all_wide c.requires.0 c.args.block.now c.requires.1; named = all_named c.requires.0 c.args.block.now c.requires.1; placed = λ j inside. c.loop-i.invariant j (omega (arith, inside, all)) }
