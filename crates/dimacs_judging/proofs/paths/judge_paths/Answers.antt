use Rattle.std.proofs.Common.{List, Err, inl, inr, subst}
use Rattle.dimacs_network.specs.declared.network.ArcView.{ArcView}
use Rattle.dimacs_instance.specs.QueryTexts.{asked}
use Rattle.dimacs_judging.specs.{CertificateTests.{label_rows}, PathsJudge.{paths_rows}, Tests.{AllClear}}
use Rattle.dimacs_judging.specs.inside.Tests.{TestsAll}
use Rattle.dimacs_judging.proofs.PathsPassing.{paths_shown, paths_judged, blocks_refused, labels_refused}
use Rattle.dimacs_judging.proofs.paths.judge_paths.Goals as goal

pub returns-in_err-query_nodes_hold : goal.returns-in_err-query_nodes_hold
returns-in_err-query_nodes_hold g c =
    let nodes = rw (c.nodes.ensures, c.nodes-nodes.ensures, c.network-network.ensures.nodes) at c.in_ok-nodes_agree.ensures in
    let first = rw (c.nodes-nodes.ensures, c.network-network.ensures.nodes) at c.in_err-query_nodes_hold.ensures.tests in
    paths_judged c.args.graph.now (asked c.args.queries.now) c.args.labels.now _ (inr (nodes, inl first)) _ c.from_residual-in_err-query_nodes_hold.ensures.1

pub returns-in_err-numbers : goal.returns-in_err-numbers
returns-in_err-numbers g c =
    let nodes = rw (c.nodes.ensures, c.nodes-nodes.ensures, c.network-network.ensures.nodes) at c.in_ok-nodes_agree.ensures in
    let named = rw (c.nodes-nodes.ensures, c.network-network.ensures.nodes) at c.in_ok-query_nodes_hold.ensures.tests in
    let refused = blocks_refused c.args.graph.now (asked c.args.queries.now) c.args.labels.now nodes named _ c.in_err-numbers.ensures in
    paths_judged c.args.graph.now (asked c.args.queries.now) c.args.labels.now _ refused _ c.from_residual-in_err-numbers.ensures.1

pub returns-in_err-labelled_blocks_hold : goal.returns-in_err-labelled_blocks_hold
returns-in_err-labelled_blocks_hold g c =
    let nodes = rw (c.nodes.ensures, c.nodes-nodes.ensures, c.network-network.ensures.nodes) at c.in_ok-nodes_agree.ensures in
    let named = rw (c.nodes-nodes.ensures, c.network-network.ensures.nodes) at c.in_ok-query_nodes_hold.ensures.tests in
    let error = c.in_err-labelled_blocks_hold.field-0.0 in
    let outcome = subst (λ (arcs : List ArcView). TestsAll (label_rows arcs c.args.labels.now.blocks) (Err error)) c.network-network.ensures.arcs c.in_err-labelled_blocks_hold.ensures.tests in
    let refused = labels_refused c.args.graph.now (asked c.args.queries.now) c.args.labels.now nodes named c.in_ok-numbers.ensures.1 error outcome in
    paths_judged c.args.graph.now (asked c.args.queries.now) c.args.labels.now _ refused _ c.from_residual-in_err-labelled_blocks_hold.ensures.1

pub returns : goal.returns
returns g c =
    let graph = c.args.graph.now in
    let labels = c.args.labels.now in
    let nodes = rw (c.nodes.ensures, c.nodes-nodes.ensures, c.network-network.ensures.nodes) at c.in_ok-nodes_agree.ensures in
    let named = rw (c.nodes-nodes.ensures, c.network-network.ensures.nodes) at c.in_ok-query_nodes_hold.ensures.tests in
    let clear : AllClear (paths_rows graph (asked c.args.queries.now) labels) = (nodes, (named, (c.in_ok-numbers.ensures.1, rw c.network-network.ensures.arcs at c.in_ok-labelled_blocks_hold.ensures.tests))) in
    (clear, paths_shown graph (asked c.args.queries.now) labels c.in_ok-labelled_blocks_hold.ensures.lawful clear, c.in_ok-answers.ensures)
