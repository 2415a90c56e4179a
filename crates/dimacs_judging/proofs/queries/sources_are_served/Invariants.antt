use Rattle.dimacs_instance.specs.QueryTexts.{asked}
use Rattle.dimacs_judging.specs.{QueryTests.{block_row}, Tests.{ClearBelow}}
use Rattle.dimacs_judging.proofs.queries.sources_are_served.Given as goal

abbrev pub invariant-loop-i : goal.invariant-loop-i
invariant-loop-i l = ClearBelow (block_row l.labels.blocks (asked l.queries)) l.i
