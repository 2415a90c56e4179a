use Rattle.std.proofs.{Common.{rules, arith, refl, neg_ℤ, pos, w64}, lemmas.Int.{to_z-of_z}}
use Rattle.std.specs.Int.{w128}
use Rattle.dimacs_claims.specs.Potentials.{potential_of}
use Rattle.dimacs_network.specs.Arcs.{no_arc}
use Rattle.dimacs_judging.specs.Potentials.{IsSlackAt}
use Rattle.dimacs_judging.proofs.Passing.{pairs_from}
use Rattle.dimacs_facts.proofs.OppositeLemmas.{slack_more}
use Rattle.dimacs_facts.proofs.opposite.are_opposite.Goals as goal

pub loop-i-preserved : goal.loop-i-preserved
loop-i-preserved g c =
    let paid = rw (to_z-of_z w128 c.opposite_cost.result (search rules), to_z-of_z w64 c.amount.result (search rules), c.opposite_cost.ensures) at (c.if-not-is_paid.ensures refl) in
    slack_more (λ v. neg_ℤ (potential_of c.args.potentials.now v)) _ _ c.loop-i.i c.arc-arc.result c.amount.result c.arc-arc.ensures c.amount.ensures paid c.loop-i.invariant

pub returns : goal.returns
returns g c = λ shown.
    pairs_from (IsSlackAt (λ v. neg_ℤ (potential_of c.args.potentials.now v))) _ _ no_arc (pos 0) c.requires
    (λ k below. c.loop-i.invariant k (omega (arith, below, c.loop-i-test.false, c.arcs-i-end.ensures)))
