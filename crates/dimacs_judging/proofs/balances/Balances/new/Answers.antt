use Rattle.std.proofs.{Common.{rules, ◌^◌, arith, w64}, lemmas.Int.{ints, to_z-of_z}}
use Rattle.dimacs_judging.specs.inside.Ranges.{IsOfSize}
use Rattle.dimacs_judging.proofs.StepLemmas.{balance_more, balance_none, balance_all}
use Rattle.dimacs_judging.proofs.balances.Balances.new.Goals as goal

pub loop-i-init : goal.loop-i-init
loop-i-init g c = λ v. balance_none (g.N.Network.list c.args.network.now) c.args.flow.now v _ (c.new-sums.ensures.values v)

pub loop-i-preserved : goal.loop-i-preserved
loop-i-preserved g c = λ v.
    let small : IsOfSize (2 ^ 63) c.amount.result = omega (arith, ints) in
    balance_more _ _ c.loop-i.i v c.arc.result c.amount.result _ _ c.arc.ensures c.amount.ensures small (c.loop-i.invariant v) (rw (to_z-of_z w64 c.amount.result (search rules)) at (c.in_ok-transfer.ensures v))

pub returns : goal.returns
returns g c = λ v. balance_all (g.N.Network.list c.args.network.now) c.args.flow.now c.loop-i.i v _ (omega (arith, c.loop-i-test.false, c.arcs-i-end.ensures)) c.requires.one_each (c.loop-i.invariant v)
