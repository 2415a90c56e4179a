use Rattle.std.proofs.{Common.{◌≤◌, w64, SFits, rules, arith}, lemmas.Int.{ints}}
use Rattle.dimacs_instance.proofs.MaxCountLemmas.{one_more_arc, one_more_node}
use Rattle.dimacs_instance.proofs.summaries.max.MaxCountBuilder.keep.Goals as goal

pub returns-in-MaxArc-clause-added : goal.returns-in-MaxArc-clause-added
returns-in-MaxArc-clause-added c = λ rs counted.
    let arc = c.in-MaxArc in
    let cap : SFits w64 arc._cap = search rules in
    let tail : 1 ≤ arc._tail = search rules in
    let head : 1 ≤ arc._head = search rules in
    let passes = rw (arc.is, ← c.self.view_is) at c.requires.passes in
    rw arc.is (one_more_arc _ rs (rw (← c.self.view_is) at counted) arc._tail arc._head arc._cap passes tail head (omega (arith, ints, cap), omega (arith, ints, cap)))

pub returns-in-MaxNode-clause-added : goal.returns-in-MaxNode-clause-added
returns-in-MaxNode-clause-added c = λ rs counted.
    let line = c.in-MaxNode in
    let least : 1 ≤ line.id = search rules in
    let passes = rw (line.is, ← c.self.view_is) at c.requires.passes in
    rw line.is (one_more_node _ rs (rw (← c.self.view_is) at counted) line.id line.end passes c.and-self-inside.result least c.and-self-inside.ensures.distinct c.and-self-inside.ensures.lines)
