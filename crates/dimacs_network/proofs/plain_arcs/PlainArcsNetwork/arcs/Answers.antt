use Rattle.std.proofs.Common.{◌≡◌, length, ap, rules, arith}
use Rattle.std.specs.Vec.{vec_len}
use Rattle.dimacs_network.specs.Arcs.{NetworkValue}
use Rattle.dimacs_network.proofs.KeptLemmas.{kept_long}
use Rattle.dimacs_network.proofs.plain_arcs.PlainArcsNetwork.arcs.Goals as goal

pub returns : goal.returns
returns g c =
    let ends = c.self.inside.ends in
    let long = kept_long g.A.StoredArc.arc_of ends.items c.self.inside.numbers c.self.invariant.1 in
    let len : vec_len ends ≡ length ends.items = search rules in
    omega (arith, ap (λ (v : NetworkValue). length v.arcs) c.self.view_is, long, len, c.len.ensures, c.self.invariant.0)
