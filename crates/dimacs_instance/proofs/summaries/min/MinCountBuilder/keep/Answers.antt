use Rattle.std.proofs.{Common.{◌≤◌, w64, SFits, rules, arith}, lemmas.Int.{to_z-of_z, ints}}
use Rattle.dimacs_network.specs.declared.network.ArcView.{ArcView}
use Rattle.dimacs_instance.proofs.MinLemmas.{law_after_set}
use Rattle.dimacs_instance.proofs.MinCountLemmas.{counted_node, one_more_arc, one_more_node}
use Rattle.dimacs_instance.proofs.summaries.min.MinCountBuilder.keep.Goals as goal

pub invariant_of-self-in-Continue-1 : goal.invariant_of-self-in-Continue-1
invariant_of-self-in-Continue-1 c =
    let line = c.in-MinNode in
    let fits : SFits w64 line.supply = search rules in
    let least : 1 ≤ line.id = search rules in
    let passes = rw (line.is, ← c.self.view_is) at c.requires.passes in
    let set = rw (to_z-of_z w64 line.supply fits) at c.set.ensures.set in
    law_after_set _ line.id line.supply c.set.new.self c.set.result set c.set.ensures.unchanged c.self.invariant (counted_node _ line.id line.supply passes least) (omega (arith, ints, fits), omega (arith, ints, fits))

pub returns-in-MinArc-clause-added : goal.returns-in-MinArc-clause-added
returns-in-MinArc-clause-added c = λ rs counted.
    let arc = c.in-MinArc in
    let low : SFits w64 arc._low = search rules in
    let cap : SFits w64 arc._cap = search rules in
    let cost : SFits w64 arc._cost = search rules in
    let tail : 1 ≤ arc._tail = search rules in
    let head : 1 ≤ arc._head = search rules in
    let a : ArcView = record { tail = arc._tail; head = arc._head; low = arc._low; cap = arc._cap; cost = arc._cost } in
    let passes = rw (arc.is, ← c.self.view_is) at c.requires.passes in
    rw arc.is (one_more_arc _ rs (rw (← c.self.view_is) at counted) a passes tail head (omega (arith, ints, cap), omega (arith, ints, cap)) (omega (arith, ints, cost), omega (arith, ints, cost)))

pub returns-in_ok-set-in-MinNode-clause-added : goal.returns-in_ok-set-in-MinNode-clause-added
returns-in_ok-set-in-MinNode-clause-added c = λ rs counted.
    let line = c.in-MinNode in
    let fits : SFits w64 line.supply = search rules in
    let least : 1 ≤ line.id = search rules in
    let passes = rw (line.is, ← c.self.view_is) at c.requires.passes in
    rw (line.is, c.in_ok-set-in-MinNode.ensures.set, to_z-of_z w64 line.supply fits)
    (one_more_node _ rs (rw (← c.self.view_is) at counted) line.id line.supply passes least (omega (arith, ints, fits), omega (arith, ints, fits)))
