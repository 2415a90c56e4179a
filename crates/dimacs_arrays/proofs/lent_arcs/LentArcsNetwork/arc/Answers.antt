use Rattle.std.proofs.Common.{◌<◌, arith}
use Rattle.dimacs_arrays.proofs.LentLemmas.{lent_get, lent_many}
use Rattle.dimacs_arrays.proofs.lent_arcs.LentArcsNetwork.arc.Goals as goal

pub arc-requires : goal.arc-requires
arc-requires g c =
    let inside = rw (← c.self.view_is) at c.requires in
    c.self.invariant.0 c.args.i (omega (arith, inside, lent_many (g.A.ArcArrays.arc_of c.self.inside.arrays) c.self.inside.count))

pub returns : goal.returns
returns g c =
    let lent = c.self.inside in
    let inside = rw (← c.self.view_is) at c.requires in
    let within : c.args.i < lent.count = omega (arith, inside, lent_many (g.A.ArcArrays.arc_of lent.arrays) lent.count) in
    rw (← c.self.view_is, c.arc.ensures) (lent_get (g.A.ArcArrays.arc_of lent.arrays) lent.count c.args.i within)
