use Rattle.dimacs_solve.proofs.EndLemmas.{always_first, first_of_arc}
use Rattle.dimacs_solve.proofs.arcs_by_ends.ArcsByEnds.first_parallel.Goals as goal

pub unreachable-requires : goal.unreachable-requires
unreachable-requires g c = always_first c.args.self.now c.args.arc c.arc-view.result c.arc-view.ensures (rw c.in_default.is at c.first.ensures)

pub returns : goal.returns
returns g c = first_of_arc c.args.self.now c.args.arc c.in-Some.first c.arc-view.result c.arc-view.ensures (rw c.in-Some.is at c.first.ensures)
