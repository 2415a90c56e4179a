use Rattle.std.proofs.{Common.{rules, ◌≤◌, ◌∙◌, length, arith, w64}, lemmas.Int.{to_z-of_z}}
use Rattle.std.proofs.{lemmas.List.Elements.{All-get_or}, lemmas.Option.{get_or_from_slice_get, slice_get_within}}
use Rattle.std.specs.Int.{w128}
use Rattle.dimacs_network.specs.Arcs.{JoinsNodes}
use Rattle.dimacs_judging.proofs.OnePass.{added_more, balances_added, cost_added, cost_fits, passed}
use Rattle.dimacs_judging.proofs.one_pass.totals_by.Goals as goal

pub add_arc-requires : goal.add_arc-requires
add_arc-requires g c = cost_fits _ _ _ _ _ c.loop-i.i (omega (arith, c.loop-i-test.true, c.arcs-i-end.ensures, c.requires.arc_limit)) _ c.loop-i.sums.cost c.loop-i.invariant

pub loop-i-preserved : goal.loop-i-preserved
loop-i-preserved g c =
    let arcs = g.N.Network.list c.args.network.now in
    let a = c.arc.result in
    let joins = rw (get_or_from_slice_get arcs c.loop-i.i a a c.arc.ensures) at (All-get_or (JoinsNodes (g.N.Network.node_count c.args.network.now)) arcs c.loop-i.i a (slice_get_within arcs c.loop-i.i a c.arc.ensures) c.requires.joined) in
    added_more _ _ _ _ _ c.loop-i.i (omega (arith, c.loop-i-test.true, c.arcs-i-end.ensures, c.requires.arc_limit)) a c.amount.result _ _ _ _ c.arc.ensures c.amount.ensures joins c.loop-i.invariant (rw (to_z-of_z w64 c.amount.result (search rules)) at c.in_ok-add_arc.ensures)

pub returns-in-Ok : goal.returns-in-Ok
returns-in-Ok g c =
    let arcs = g.N.Network.list c.args.network.now in
    let all : length arcs ≤ c.loop-i.i = omega (arith, c.loop-i-test.false, c.arcs-i-end.ensures) in
    let balances = balances_added _ arcs _ _ _ c.loop-i.i _ _ all c.requires.one_each c.loop-i.invariant in
    record {
      clear = passed _ arcs _ _ _ c.loop-i.i _ _ all c.requires.one_each c.loop-i.invariant _ (c.in-Ok.ensures _ balances);
      balance_is = to_z-of_z w128 c.of.result (search rules) ∙ (c.of.ensures ∙ balances c.args.node);
      cost_is = to_z-of_z w128 c.loop-i.sums.cost (search rules) ∙ cost_added _ arcs _ _ _ c.loop-i.i _ _ all c.requires.one_each c.loop-i.invariant;
    }
