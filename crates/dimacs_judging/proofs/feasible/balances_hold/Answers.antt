use Rattle.std.proofs.{Common.{rules, ◌≡◌, ◌∙◌, sym, arith}, lemmas.Int.{to_z-of_z}}
use Rattle.std.specs.Int.{w128}
use Rattle.dimacs_network.proofs.SkipLemmas.{Skips-weaker}
use Rattle.dimacs_judging.specs.Flows.{net}
use Rattle.dimacs_judging.proofs.RowLemmas.{balances_skipped, node_clear_more, node_clear_end, node_first, no_node_zero}
use Rattle.dimacs_judging.proofs.feasible.balances_hold.Goals as goal

pub loop-v-init : goal.loop-v-init
loop-v-init g c = record {
  low = omega arith;
  demanded = record { onward = omega arith; within = omega arith; blank = λ v from below. absurd (omega (arith, from, below)) };
  clear = λ x are. no_node_zero _ _;
}

pub later_demand-demanded-requires-clause-nothing : goal.later_demand-demanded-requires-clause-nothing
later_demand-demanded-requires-clause-nothing g c = λ v from below. c.loop-v.invariant.demanded.blank v (omega (arith, from)) below

pub loop-v-preserved : goal.loop-v-preserved
loop-v-preserved g c =
    let later = c.later_demand-demanded.ensures in
    let next = c.next-v.ensures in
    record {
      low = omega (arith, next.onward);
      demanded = record { onward = next.within; within = later.within; blank = λ v from below. later.blank v (omega (arith, next.onward, from)) below };
      clear = λ x are.
          let is_net : c.of.result ≡ net (g.N.Network.list c.args.network.now) x c.loop-v.v = c.of.ensures ∙ are c.loop-v.v in
          balances_skipped _ _ _ x _ _ _ (λ v from below. later.blank v from (omega (arith, below, next.within))) (Skips-weaker _ _ _ _ _ (λ v none. sym (are v) ∙ none) next)
          (node_clear_more _ _ c.loop-v.v (c.loop-v.invariant.clear x are) (rw (to_z-of_z w128 c.of.result (search rules), c.demand_at.ensures, is_net) at c.in_default.ensures));
    }

pub returns-in-Some : goal.returns-in-Some
returns-in-Some g c = λ x are.
    let is_net : c.of.result ≡ net (g.N.Network.list c.args.network.now) x c.loop-v.v = c.of.ensures ∙ are c.loop-v.v in
    node_first _ _ c.loop-v.v _ c.loop-v.invariant.low (omega (arith, c.loop-v-test.true, c.nodes-end.ensures)) (c.loop-v.invariant.clear x are) (rw (to_z-of_z w128 c.of.result (search rules), c.demand_at.ensures, is_net) at c.in-Some.ensures)

pub returns : goal.returns
returns g c = λ x are. node_clear_end _ _ c.loop-v.v (omega (arith, c.loop-v-test.false, c.nodes-end.ensures)) (c.loop-v.invariant.clear x are)
