use Rattle.std.proofs.{Common.{rules, ◌≡◌, length, arith, w64, SFits}, lemmas.Int.{to_z-of_z}}
use Rattle.dimacs_decide.specs.inside.Cancelling.{IsCancelling}
use Rattle.dimacs_decide.proofs.CancelLemmas as C
use Rattle.dimacs_decide.proofs.cancel.cancel.Goals as goal

pub send_from-requires-clause-arc_index : goal.send_from-requires-clause-arc_index
send_from-requires-clause-arc_index g c =
    let amount = c.least_residual_capacity-amount.result in
    C.long (g.N.Network.list c.args.network.now) c.args.flow.now c.args.cycle.now c.requires.cycle c.loop-j.j c.loop-j-test.true c.loop-j.flow amount (rw (to_z-of_z w64 amount (search rules)) at c.loop-j.invariant) c.least_residual_capacity-amount.ensures

pub send_from-requires-clause-whole : goal.send_from-requires-clause-whole
send_from-requires-clause-whole g c =
    let amount = c.least_residual_capacity-amount.result in
    let fits : SFits w64 amount = search rules in
    rw (to_z-of_z w64 amount fits) (C.whole (g.N.Network.list c.args.network.now) c.args.flow.now c.args.cycle.now c.requires.cycle c.loop-j.j c.loop-j-test.true c.loop-j.flow amount (rw (to_z-of_z w64 amount fits) at c.loop-j.invariant) c.least_residual_capacity-amount.ensures c.requires.bounds)

pub loop-j-preserved : goal.loop-j-preserved
loop-j-preserved g c =
    let amount = c.least_residual_capacity-amount.result in
    let fits : SFits w64 amount = search rules in
    rw (c.send_from.ensures, to_z-of_z w64 amount fits) (C.cancel_more (g.N.Network.list c.args.network.now) c.args.flow.now c.args.cycle.now c.requires.cycle c.loop-j.j c.loop-j-test.true c.loop-j.flow amount (rw (to_z-of_z w64 amount fits) at c.loop-j.invariant) c.least_residual_capacity-amount.ensures)

pub returns : goal.returns
returns g c =
    let arcs = g.N.Network.list c.args.network.now in
    let amount = c.least_residual_capacity-amount.result in
    let all : c.loop-j.j ≡ length c.args.cycle.now = omega (arith, c.loop-j-test.false, c.loop-j.auto.j-end) in
    let is : IsCancelling arcs c.args.flow.now c.loop-j.flow c.args.cycle.now (length c.args.cycle.now) amount = rw (to_z-of_z w64 amount (search rules), all) at c.loop-j.invariant in
    record {
      within = search rules;
      balances = C.round_balances arcs c.args.flow.now c.loop-j.flow c.args.cycle.now amount c.requires.cycle c.least_residual_capacity-amount.ensures.positive is;
      less = C.round_less arcs c.args.flow.now c.loop-j.flow c.args.cycle.now amount c.requires.cycle c.least_residual_capacity-amount.ensures.positive is;
    }
