use Rattle.dimacs_judging.specs.CertificateTests.{label_rows}
use Rattle.dimacs_judging.proofs.{LabelsPassing.{labels_hold, labels_clear, told_distances}, Settling.{decided}}
use Rattle.dimacs_judging.proofs.labels.label_tests.Goals as goal

pub returns-clause-decides : goal.returns-clause-decides
returns-clause-decides g c =
    decided _ (label_rows _ _) (labels_hold _ _) (labels_clear _ _) c.blocks_hold.result (rw c.network.ensures.arcs at c.blocks_hold.ensures.tests)

pub returns-clause-distances : goal.returns-clause-distances
returns-clause-distances g c =
    told_distances c.args.graph.now.arcs c.args.labels.now c.blocks_hold.ensures.lawful c.blocks_hold.result (rw c.network.ensures.arcs at c.blocks_hold.ensures.tests)
