use Rattle.std.proofs.{Common.{◌≤◌, w64, SFits, rules, arith}, lemmas.Int.{ints}}
use Rattle.dimacs_instance.proofs.SummaryLemmas.{counted_more}
use Rattle.dimacs_instance.proofs.summaries.graph.GraphCountBuilder.keep.Goals as goal

pub returns-clause-added : goal.returns-clause-added
returns-clause-added c = λ rs counted.
    let arc = c.in-GraphArc in
    let weight : SFits w64 arc._weight = search rules in
    let tail : 1 ≤ arc._tail = search rules in
    let head : 1 ≤ arc._head = search rules in
    rw arc.is (counted_more c.args.self.now arc._tail arc._head arc._weight (rw arc.is at c.requires.passes) tail head (omega (arith, ints, weight), omega (arith, ints, weight)) rs counted)
