use Rattle.std.proofs.Common.{◌∙◌}
use Rattle.dimacs_network.specs.Tables.{value_of}
use Rattle.dimacs_decide.specs.Predecessors.{pred_by_node}
use Rattle.dimacs_decide.proofs.LabelTreeLemmas.{begun}
use Rattle.dimacs_decide.proofs.label_tree.LabelTree.new.Goals as goal

pub returns-clause-tree : goal.returns-clause-tree
returns-clause-tree g c = λ nodes inside.
    let lawful = rw c.new-block.ensures.empty at (c.new-block.ensures.lawful nodes inside) in
    rw c.new-block.ensures.empty (begun nodes (g.C.DistanceClaim.claimed c.args.claim.now) (pred_by_node c.args.predecessors.now) c.args.source (value_of c.set.new.self) inside c.requires lawful
    c.in_ok-set.ensures.set (λ v apart. c.in_ok-set.ensures.others v apart ∙ c.new-labelled.ensures.values v))
