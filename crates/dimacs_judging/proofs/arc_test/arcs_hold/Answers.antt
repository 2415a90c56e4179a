use Rattle.std.proofs.{Common.{rules, arith, w64}, lemmas.Int.{to_z-of_z}}
use Rattle.dimacs_judging.proofs.RowLemmas.{flow_clear_more, flow_first, arc_clear_end}
use Rattle.dimacs_judging.proofs.arc_test.arcs_hold.Goals as goal

pub returns-in-Some : goal.returns-in-Some
returns-in-Some g c =
    flow_first (g.T.ArcTest.fails c.args.test.now) _ _ _ _ _ c.arc.ensures c.amount.ensures _ c.loop-i.invariant (rw (to_z-of_z w64 c.amount.result (search rules)) at c.in-Some.ensures)

pub loop-i-preserved : goal.loop-i-preserved
loop-i-preserved g c =
    flow_clear_more (g.T.ArcTest.fails c.args.test.now) _ _ _ _ _ c.arc.ensures c.amount.ensures c.loop-i.invariant (rw (to_z-of_z w64 c.amount.result (search rules)) at c.in_default.ensures)

pub returns : goal.returns
returns g c = arc_clear_end _ _ c.loop-i.i (omega (arith, c.arcs-i-end.ensures)) c.loop-i.invariant
