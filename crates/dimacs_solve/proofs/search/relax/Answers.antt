use Rattle.std.proofs.Common.{◌≡◌, ◌∙◌, length, arith, refl}
use Rattle.dimacs_solve.specs.inside.NodeStates.{known}
use Rattle.dimacs_solve.proofs.SearchLemmas.{out_arc_at, out_arc_within, relaxing_all, relaxing_more, relaxing_none}
use Rattle.dimacs_solve.proofs.search.relax.Goals as goal

pub plus-requires : goal.plus-requires
plus-requires g c =
    let item = c.out_arc-item.result in
    let lawful = out_arc_at c.args.node c.loop-out_arc.out_arc-index item c.requires.ready.waits.adjacent c.leaving-out_arcs.ensures c.loop-out_arc-test.true in
    rw (c.weight.ensures, c.out_arc-item.is) (out_arc_within g.D.SearchDistance.limit c.requires.ready c.requires.bounded lawful)

pub loop-out_arc-init : goal.loop-out_arc-init
loop-out_arc-init g c =
    record { relaxing = relaxing_none c.leaving-out_arcs.result.now c.requires.ready; round = refl }

pub loop-out_arc-preserved : goal.loop-out_arc-preserved
loop-out_arc-preserved g c =
    let offers = rw (c.plus.ensures, c.weight.ensures, c.head.ensures, c.out_arc-item.is) at c.in_ok-offer.ensures.offers in
    record {
      relaxing = relaxing_more c.out_arc-item.result (known g.D.SearchDistance.value c.offer.new.node_states) c.offer.new.frontier
          c.requires.ready c.leaving-out_arcs.ensures c.loop-out_arc-test.true c.loop-out_arc.invariant.relaxing offers;
      round = c.in_ok-offer.ensures.round ∙ c.loop-out_arc.invariant.round;
    }

pub returns-clause-relaxes : goal.returns-clause-relaxes
returns-clause-relaxes g c =
    let all : length c.leaving-out_arcs.result.now ≡ c.loop-out_arc.out_arc-index = omega (arith, c.loop-out_arc-test.false, c.loop-out_arc.auto.out_arc-index-end) in
    relaxing_all c.args.node c.leaving-out_arcs.ensures all c.loop-out_arc.invariant.relaxing
