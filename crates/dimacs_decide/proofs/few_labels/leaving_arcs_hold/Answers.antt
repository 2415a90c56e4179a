use Rattle.std.proofs.Common.{◌≡◌, ◌≤◌, length, get_or, refl, ap, arith}
use Rattle.dimacs_claims.specs.{declared.label_list.Label.{Label}, Labels.{no_label}}
use Rattle.dimacs_decide.proofs.FewLemmas.{all_passed, first_passed}
use Rattle.dimacs_decide.proofs.few_labels.leaving_arcs_hold.Goals as goal

pub loop-i-init : goal.loop-i-init
loop-i-init g c = (rw c.source.ensures at (c.if-not-arcs_hold_from.ensures refl), λ k below. absurd (omega (arith, below)))

pub loop-i-preserved : goal.loop-i-preserved
loop-i-preserved g c =
    let b = c.args.claimed.now in
    let id : c.at.result.id ≡ (get_or b.labels c.loop-i.i no_label).id = ap (λ (l : Label). l.id) (rw c.labels-labels.ensures at c.at.ensures) in
    first_passed (g.N.Network.list c.args.network.now) (g.C.DistanceClaim.claimed c.args.claim.now) b c.loop-i.i c.at.result.id id (c.if-not-arcs_hold_from-2.ensures refl) c.loop-i.invariant

pub returns : goal.returns
returns g c = λ yes.
    let b = c.args.claimed.now in
    let all : length b.labels ≤ c.loop-i.i = rw (c.len-i-end.ensures, c.labels-labels.ensures) at c.loop-i-test.false in
    all_passed (g.N.Network.list c.args.network.now) (g.C.DistanceClaim.claimed c.args.claim.now) b c.loop-i.i c.requires.claimed all c.loop-i.invariant
