use Rattle.std.proofs.Common.{◌≡◌, ◌*◌, ◌+◌, ◌<◌, ℕ, subst, arith}
use Rattle.dimacs_instance.specs.QueryTexts.{Pairs}
use Rattle.dimacs_judging.specs.{QueryTests.{query_node_row}, Tests.{ClearBelow}}
use Rattle.dimacs_judging.proofs.ListedRows.{listed_clear_more, listed_clear_end, listed_first, length-ends, from_at, to_at}
use Rattle.dimacs_judging.proofs.queries.pairs_are_nodes.Goals as goal

pub returns-then-from-nodes : goal.returns-then-from-nodes
returns-then-from-nodes c =
    let i = c.loop-from.from-index in
    let pairs = c.args.pairs.now in
    listed_first _ _ (λ id. c.args.nodes < id) (2 * i) _ (from_at pairs i (0, 0) c.loop-from-test.true) (omega (arith, length-ends pairs, c.loop-from-test.true)) c.loop-from.invariant c.if-from-nodes.true

pub returns-then-to-nodes : goal.returns-then-to-nodes
returns-then-to-nodes c =
    let i = c.loop-from.from-index in
    let pairs = c.args.pairs.now in
    let below = listed_clear_more _ _ (λ id. c.args.nodes < id) (2 * i) _ (from_at pairs i (0, 0) c.loop-from-test.true) c.loop-from.invariant (λ above. omega (arith, above, c.if-from-nodes.false)) in
    listed_first _ _ (λ id. c.args.nodes < id) (2 * i + 1) _ (to_at pairs i (0, 0) c.loop-from-test.true) (omega (arith, length-ends pairs, c.loop-from-test.true)) below c.if-to-nodes.true

pub loop-from-preserved : goal.loop-from-preserved
loop-from-preserved c =
    let i = c.loop-from.from-index in
    let pairs = c.args.pairs.now in
    let below = listed_clear_more _ _ (λ id. c.args.nodes < id) (2 * i) _ (from_at pairs i (0, 0) c.loop-from-test.true) c.loop-from.invariant (λ above. omega (arith, above, c.if-from-nodes.false)) in
    let both = listed_clear_more _ _ (λ id. c.args.nodes < id) (2 * i + 1) _ (to_at pairs i (0, 0) c.loop-from-test.true) below (λ above. omega (arith, above, c.if-to-nodes.false)) in
    let next : 2 * i + 1 + 1 ≡ 2 * (i + 1) = omega arith in
    subst (λ (n : ℕ). ClearBelow (query_node_row c.args.nodes (Pairs pairs)) n) next both

pub returns : goal.returns
returns c = listed_clear_end _ _ (λ id. c.args.nodes < id) (2 * c.loop-from.from-index) (omega (arith, length-ends c.args.pairs.now, c.loop-from-test.false)) c.loop-from.invariant
