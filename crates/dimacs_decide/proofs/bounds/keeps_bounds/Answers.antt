use Rattle.std.proofs.Common.{◌≢◌, length, arith}
use Rattle.dimacs_decide.proofs.BoundLemmas.{all_kept, one_not, other_length}
use Rattle.dimacs_decide.proofs.bounds.keeps_bounds.Goals as goal

pub returns-then-len-arcs : goal.returns-then-len-arcs
returns-then-len-arcs g c =
    let apart : length c.args.flow.now ≢ length (g.N.Network.list c.args.network.now) = λ same. c.if-len-arcs.true (omega (arith, c.len.ensures, c.arcs.ensures, same)) in
    other_length (g.N.Network.list c.args.network.now) c.args.flow.now apart

pub returns-in-Ok : goal.returns-in-Ok
returns-in-Ok g c = all_kept (g.N.Network.list c.args.network.now) c.args.flow.now (omega (arith, c.len.ensures, c.arcs.ensures, c.if-len-arcs.false)) c.in-Ok.ensures

pub returns-in-Err : goal.returns-in-Err
returns-in-Err g c = one_not (g.N.Network.list c.args.network.now) c.args.flow.now _ _ c.in-Err.ensures
