use Rattle.std.proofs.Common.{◌*◌}
use Rattle.dimacs_instance.specs.QueryTexts.{Pairs}
use Rattle.dimacs_judging.specs.{QueryTests.{query_node_row}, Tests.{ClearBelow}}
use Rattle.dimacs_judging.proofs.queries.pairs_are_nodes.Given as goal

-- both tests of each pair so far pass
abbrev pub invariant-loop-from : goal.invariant-loop-from
invariant-loop-from l = ClearBelow (query_node_row l.nodes (Pairs l.pairs)) (2 * l.from-index)
