use Rattle.std.proofs.Common.{◌≡◌, ap, length, map, take, arith, rules}
use Rattle.dimacs_records.proofs.{ReadLaws.{spells_one_value}, WrittenLemmas.{all_items, lines_of_items}}
use Rattle.dimacs_instance.specs.Graph.{graph_arc, canonical_graph}
use Rattle.dimacs_instance.proofs.GraphLemmas.{graph_round_trip, one_graph}
use Rattle.dimacs_instance.proofs.graph.writing.write_graph.Goals as goal

pub put_text-requires : goal.put_text-requires
put_text-requires g c = λ i within. search (rules, within)

pub returns-clause-puts : goal.returns-clause-puts
returns-clause-puts g c =
    let arcs = c.args.graph.now.arcs in
    let n = c.arcs-arcs.result in
    let all : n ≡ length arcs = rw c.network-network.ensures.arcs at c.arcs-arcs.ensures in
    rw (all_items graph_arc n arcs all, c.nodes-nodes.ensures, c.network-network.ensures.nodes, all) at
    (c.put_text.ensures (λ i. take i (map graph_arc arcs)) (lines_of_items graph_arc _ n arcs (omega (arith, all)) (λ i rec within e. rw c.network-network.ensures.arcs at e)))

pub returns-clause-round_trip : goal.returns-clause-round_trip
returns-clause-round_trip g c = graph_round_trip c.args.graph.now c.network-network.ensures.lawful

pub returns-clause-same_text : goal.returns-clause-same_text
returns-clause-same_text g c = λ read spelled. ap canonical_graph (spells_one_value _ _ _ read _ one_graph spelled (graph_round_trip _ c.network-network.ensures.lawful))
