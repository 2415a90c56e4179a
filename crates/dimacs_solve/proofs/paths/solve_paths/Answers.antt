use Rattle.std.proofs.Common.{◌≤◌, All}
use Rattle.dimacs_instance.specs.QueryTexts.{asked}
use Rattle.dimacs_judging.specs.{QueryTests.{nodes_asked, query_node_row, sources_asked}, Tests.{Clear}}
use Rattle.dimacs_solve.specs.{inside.Adjacency.{IsAdjacencyOf}, inside.Blocks.{AreSolved}, Paths.{HasNoNegativeWeight}}
use Rattle.dimacs_solve.proofs.BlocksLemmas.{produced, sources_are_nodes}
use Rattle.dimacs_solve.proofs.paths.solve_paths.Goals.{then-farthest-from+in_ok-labels, else-farthest-from+in_ok-labels-2}
use Rattle.dimacs_solve.proofs.paths.solve_paths.Goals as goal

pub solve_all-requires-clause-sources : goal.solve_all-requires-clause-sources
solve_all-requires-clause-sources g c =
    rw (c.in_ok-adjacency.ensures.of_nodes, ← c.nodes.ensures) (sources_are_nodes c.nodes.result (asked c.args.queries.now) c.requires.lawful.ids c.in_ok-query_nodes_hold.ensures.within)

pub solve_all-requires-else-farthest-from-clause-sources : goal.solve_all-requires-else-farthest-from-clause-sources
solve_all-requires-else-farthest-from-clause-sources g c =
    rw (c.in_ok-adjacency.ensures.of_nodes, ← c.nodes.ensures) (sources_are_nodes c.nodes.result (asked c.args.queries.now) c.requires.lawful.ids c.in_ok-query_nodes_hold.ensures.within)

pub returns : goal.returns
returns g c =
    let value = c.args.graph.now in
    let q = asked c.args.queries.now in
    let a = c.in_ok-adjacency.adjacency in
    let clear : Clear (query_node_row value.nodes q) = rw (c.nodes.ensures, c.network-network.ensures.nodes) at c.in_ok-query_nodes_hold.ensures.tests in
    let within : All (λ id. id ≤ value.nodes) (nodes_asked q) = rw (c.nodes.ensures, c.network-network.ensures.nodes) at c.in_ok-query_nodes_hold.ensures.within in
    let weights : All HasNoNegativeWeight value.arcs = rw c.network-network.ensures.arcs at c.in_default.ensures in
    let by : IsAdjacencyOf value.nodes value.arcs a = rw (c.network-network.ensures.nodes, c.network-network.ensures.arcs) at c.in_ok-adjacency.ensures in
    let solved : AreSolved a (sources_asked q) c.if-farthest-from.labels = elim c.if-farthest-from.branch [
      | then-farthest-from+in_ok-labels w ↦ rw w.labels-is w.in_ok-labels.ensures
      | else-farthest-from+in_ok-labels-2 w ↦ rw w.labels-is w.in_ok-labels-2.ensures
    ] in
    (clear, weights, produced value q a c.if-farthest-from.labels c.passing_shows.ensures by within solved)
