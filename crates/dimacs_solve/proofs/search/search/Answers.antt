use Rattle.std.proofs.{Common.{◌∙◌, [], None, ap, arith}, lemmas.List.Sorted.{IsPermutation-sym, length_permutation}}
use Rattle.dimacs_claims.specs.Labels.{BlockValue, IsBlock}
use Rattle.dimacs_solve.specs.{inside.NodeStates.{Settled, Sets, known}, inside.Search.{IsPathSearch, Relaxes}}
use Rattle.dimacs_solve.proofs.SearchLemmas.{over_tree, start_ready, start_search}
use Rattle.dimacs_solve.proofs.search.search.Goals as goal

pub relax-requires-clause-ready : goal.relax-requires-clause-ready
relax-requires-clause-ready g c =
    let value = g.D.SearchDistance.value in
    let node_states = known value c.next_round.new.self in
    let started = known value c.settle.new.self in
    let sets : Sets node_states c.args.source (Settled 0) started = rw c.zero.ensures at c.in_ok-settle.ensures.settled in
    rw (c.zero-2.ensures, c.requires.empty) (start_ready c.requires.adjacent c.requires.source c.next_round.ensures.unknown sets)

pub loop-walk-init : goal.loop-walk-init
loop-walk-init g c =
    let value = g.D.SearchDistance.value in
    let a = c.args.adjacency.now in
    let source = c.args.source in
    let node_states = known value c.next_round.new.self in
    let started = known value c.settle.new.self in
    let node_states' = known value c.relax.new.node_states in
    let sets : Sets node_states source (Settled 0) started = rw c.zero.ensures at c.in_ok-settle.ensures.settled in
    let made = c.new-block.ensures.empty in
    let lawful : IsBlock a.nodes (record { source = source; radius = None; labels = [] }) = rw made at (c.new-block.ensures.lawful a.nodes c.requires.source) in
    let relaxes : Relaxes a source 0 started [] node_states' c.relax.new.frontier = rw (c.zero-2.ensures, c.requires.empty) at c.in_ok-relax.ensures.relaxes in
    record {
      search = rw made (start_search c.requires.adjacent c.requires.source c.next_round.ensures.unknown sets lawful relaxes);
      from = ap (λ (b : BlockValue). b.source) made;
      round = c.in_ok-relax.ensures.round ∙ (c.in_ok-settle.ensures.round ∙ c.next_round.ensures.round);
    }

pub loop-walk-preserved : goal.loop-walk-preserved
loop-walk-preserved g c = record {
  search = c.in_ok-visit.ensures.search;
  from = c.in_ok-visit.ensures.source ∙ c.loop-walk.invariant.from;
  round = c.in_ok-visit.ensures.round ∙ c.loop-walk.invariant.round;
}

pub loop-walk-smaller : goal.loop-walk-smaller
loop-walk-smaller g c =
    let shorter = length_permutation _ _ (IsPermutation-sym _ _ c.in-Some.ensures.0) in
    omega (arith, shorter, c.in_ok-visit.ensures.less)

pub returns-clause-tree : goal.returns-clause-tree
returns-clause-tree g c =
    let node_states = known g.D.SearchDistance.value c.loop-walk.node_states in
    let is : IsPathSearch c.args.adjacency.now c.loop-walk.block node_states [] = rw c.in_default.ensures.0 at c.loop-walk.invariant.search in
    over_tree is c.loop-walk.invariant.from
