use Rattle.std.proofs.Common.{◌≡◌, ◌<◌, length, arith, rules}
use Rattle.std.specs.Vec.{vec_len}
use Rattle.dimacs_network.proofs.KeptLemmas.{kept_long, kept_get}
use Rattle.dimacs_network.proofs.plain_arcs.PlainArcsNetwork.arc.Goals as goal

pub index-requires : goal.index-requires
index-requires g c =
    let ends = c.self.inside.ends in
    let long = kept_long g.A.StoredArc.arc_of ends.items c.self.inside.numbers c.self.invariant.1 in
    let len : vec_len ends ≡ length ends.items = search rules in
    let inside = rw (← c.self.view_is) at c.requires in
    omega (arith, inside, long, len)

pub at-requires : goal.at-requires
at-requires g c =
    let long = kept_long g.A.StoredArc.arc_of c.self.inside.ends.items c.self.inside.numbers c.self.invariant.1 in
    let inside = rw (← c.self.view_is) at c.requires in
    omega (arith, inside, long, c.self.invariant.1)

pub returns : goal.returns
returns g c =
    let ends = c.self.inside.ends.items in
    let long = kept_long g.A.StoredArc.arc_of ends _ c.self.invariant.1 in
    let inside = rw (← c.self.view_is) at c.requires in
    let within : c.args.i < length ends = omega (arith, inside, long) in
    rw (← c.self.view_is, c.from_parts.ensures, c.index.ensures, c.at.ensures) (kept_get g.A.StoredArc.arc_of ends _ c.self.invariant.1 c.args.i c.index.result.now _ within)
