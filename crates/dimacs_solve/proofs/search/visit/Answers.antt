use Rattle.std.proofs.{Common.{◌∙◌, SFits, ap, sym, subst, arith, rules}, lemmas.Int.{to_z-of_z}}
use Rattle.std.specs.{Prelude.{is_some}, Int.{w128}}
use Rattle.dimacs_claims.specs.Labels.{IsBlock, IsWithinRadius, with_label}
use Rattle.dimacs_solve.specs.{inside.Frontiers.{walk_of}, inside.NodeStates.{known, settled_label}}
use Rattle.dimacs_claims.proofs.BuilderLemmas.{unlabelled}
use Rattle.dimacs_solve.proofs.SearchLemmas.{AddsLabel, added, added_few, added_label, added_pred, has_none, marked_ready, popped_again, popped_small, visited, visited_less}
use Rattle.dimacs_solve.proofs.search.visit.Goals as goal

pub returns-then-is_settled-clause-search : goal.returns-then-is_settled-clause-search
returns-then-is_settled-clause-search g c = popped_again c.requires.popped (sym c.is_settled.ensures ∙ c.if-is_settled.true)

pub to_i128-requires : goal.to_i128-requires
to_i128-requires g c = omega (arith, popped_small c.requires.popped)

pub add-requires : goal.add-requires
add-requires g c = has_none c.requires.popped (unlabelled _ (sym c.is_settled.ensures ∙ c.if-is_settled.false))

pub relax-requires-clause-ready : goal.relax-requires-clause-ready
relax-requires-clause-ready g c = marked_ready c.requires.popped (unlabelled _ (sym c.is_settled.ensures ∙ c.if-is_settled.false)) c.in_ok-settle.ensures.settled

pub returns-clause-search : goal.returns-clause-search
returns-clause-search g c =
    let value = g.D.SearchDistance.value in
    let b = c.args.block.now in
    let nodes = c.args.adjacency.now.nodes in
    let popped = c.requires.popped in
    let unsettled = unlabelled (settled_label (known value c.args.node_states.now (walk_of value c.args.walk).node)) (sym c.is_settled.ensures ∙ c.if-is_settled.false) in
    let sets = c.in_ok-settle.ensures.settled in
    let l = added popped unsettled sets in
    let fits : SFits w128 c.to_i128.result = search rules in
    let whole = to_z-of_z w128 c.to_i128.result fits in
    let adds : AddsLabel b l = rw (c.in_ok-add.ensures.added, whole, c.to_i128.ensures) at c.in_ok-add.ensures.labels in
    let keeps = rw (c.in_ok-add.ensures.added, whole, c.to_i128.ensures) at c.in_ok-add.ensures.lawful in
    let near : IsWithinRadius b.radius l.dist = subst (λ radius. IsWithinRadius radius l.dist) (sym popped.search.unbounded) tt in
    let lawful : IsBlock nodes (with_label b l) = keeps nodes popped.search.lawful (added_label popped unsettled sets) (added_few popped unsettled sets) (ap is_some (added_pred popped unsettled sets)) near in
    rw (c.in_ok-add.ensures.added, whole, c.to_i128.ensures) (visited popped unsettled sets adds lawful c.in_ok-relax.ensures.relaxes)

pub returns-clause-less : goal.returns-clause-less
returns-clause-less g c = visited_less c.requires.popped (unlabelled _ (sym c.is_settled.ensures ∙ c.if-is_settled.false)) c.in_ok-settle.ensures.settled c.in_ok-relax.ensures.relaxes
