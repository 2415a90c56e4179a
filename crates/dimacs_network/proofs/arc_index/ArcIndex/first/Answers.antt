use Rattle.std.proofs.{Common.{rules}, lemmas.List.Sorted.{IsPartitionPoint-from_clause}}
use Rattle.dimacs_network.specs.inside.ArcOrder.{is_before_ends}
use Rattle.dimacs_network.proofs.ArcOrderLemmas.{are_parted, first_parted}
use Rattle.dimacs_network.proofs.arc_index.ArcIndex.first.Goals as goal

pub returns-else-is_first-clause-first : goal.returns-else-is_first-clause-first
returns-else-is_first-clause-first c = λ arcs index.
    let same = c.deref.ensures.value in
    first_parted _ c.args.tail c.args.head c.partition_point.result (rw same at c.partition_point.ensures.bound)
    (rw same at (IsPartitionPoint-from_clause (is_before_ends c.args.tail c.args.head) _ _ c.partition_point.ensures.partitioned (rw same (are_parted arcs _ index.order index.ends c.args.tail c.args.head)) (λ a r f k. search rules)))
