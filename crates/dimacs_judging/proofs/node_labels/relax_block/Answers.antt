use Rattle.std.proofs.Common.{refl, sym}
use Rattle.dimacs_judging.proofs.NodeLabelLemmas.{labels_tests}
use Rattle.dimacs_judging.proofs.node_labels.relax_block.Goals as goal

pub returns-then-relax_if_few-clause-tests : goal.returns-then-relax_if_few-clause-tests
returns-then-relax_if_few-clause-tests g c =
    let arcs = g.N.Network.list c.args.network.now in
    let b = c.args.block.now in
    labels_tests arcs b c.labels_supported.result (c.labels_supported.ensures arcs b (sym c.labels.ensures) (c.if-relax_if_few.ensures.supported refl)) (c.if-relax_if_few.ensures.clear refl)
