use Rattle.std.proofs.Common.{◌≤◌, rules}
use Rattle.dimacs_lines.specs.Limits.{most_count, most_nodes}
use Rattle.dimacs_instance.proofs.{MinLemmas.{new_law}, MinCountLemmas.{counted_none}}
use Rattle.dimacs_instance.proofs.summaries.min.MinCountBuilder.begin.Goals as goal

pub invariant_of-result : goal.invariant_of-result
invariant_of-result c =
    let nodes : c.in-MinProblem.nodes ≤ most_nodes = search rules in
    let arcs : c.in-MinProblem.arcs ≤ most_count = search rules in
    rw c.new.ensures (new_law c.in-MinProblem.nodes c.in-MinProblem.arcs nodes arcs)

pub returns : goal.returns
returns c =
    let nodes : c.in-MinProblem.nodes ≤ most_nodes = search rules in
    let arcs : c.in-MinProblem.arcs ≤ most_count = search rules in
    rw (c.in-MinProblem.is, c.new.ensures) (counted_none c.in-MinProblem.nodes c.in-MinProblem.arcs nodes arcs)
