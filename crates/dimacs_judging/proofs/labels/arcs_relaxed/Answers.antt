use Rattle.std.proofs.Common.{arith}
use Rattle.dimacs_judging.proofs.BlockLemmas.{label_at-block}
use Rattle.dimacs_judging.proofs.RowLemmas.{relax_clear_more, relax_first, arc_clear_end}
use Rattle.dimacs_judging.proofs.labels.arcs_relaxed.Goals as goal

pub returns-in-Some : goal.returns-in-Some
returns-in-Some g c =
    relax_first _ _ c.loop-i.i c.arc.result c.arc.ensures _ c.loop-i.invariant (rw (c.radius_in-radius.ensures, label_at-block _ _ c.arc.result.tail c.requires, label_at-block _ _ c.arc.result.head c.requires) at c.in-Some.ensures)

pub loop-i-preserved : goal.loop-i-preserved
loop-i-preserved g c =
    relax_clear_more _ _ c.loop-i.i c.arc.result c.arc.ensures c.loop-i.invariant (rw (c.radius_in-radius.ensures, label_at-block _ _ c.arc.result.tail c.requires, label_at-block _ _ c.arc.result.head c.requires) at c.in_default.ensures)

pub returns : goal.returns
returns g c = arc_clear_end _ _ c.loop-i.i (omega (arith, c.arcs-i-end.ensures)) c.loop-i.invariant
