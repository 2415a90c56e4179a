use Rattle.std.proofs.Common.{Ok, refl}
use Rattle.dimacs_fill.proofs.cut.read_cut_into.Goals as goal

pub returns-clause-reads : goal.returns-clause-reads
returns-clause-reads g c = λ bytes is. (Ok c.in_ok-cut.cut, c.in_ok-cut.ensures.reads bytes is, rw c.nodes.ensures refl, c.fill_inside.ensures)
