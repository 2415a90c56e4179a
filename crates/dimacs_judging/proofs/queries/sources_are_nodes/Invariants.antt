use Rattle.std.proofs.Common.{◌<◌}
use Rattle.dimacs_records.specs.declared.reasons.Reason.TheVariants.{QueryNode}
use Rattle.dimacs_judging.specs.{QueryTests.{listed_row}, Tests.{ClearBelow}}
use Rattle.dimacs_judging.proofs.queries.sources_are_nodes.Given as goal

abbrev pub invariant-loop-id : goal.invariant-loop-id
invariant-loop-id l = ClearBelow (listed_row l.ids QueryNode (λ id. l.nodes < id)) l.id-index
